use Rattle.std.proofs.Common.{◌≡◌, ◌≤◌, ℕ, ◌+◌, ◌*◌, List, length, replicate, sym, ap, ◌∙◌, arith}
use Rattle.std.proofs.lemmas.List.{length-replicate}
use Rattle.data_encoding.specs.PlainTables.{plain_tables}
use Rattle.data_encoding_meaning.specs.text.Base.{Base}
use Rattle.data_encoding_meaning.specs.text.Text.{text_of}
use Rattle.data_encoding_meaning.proofs.judgement.RuleLemmas.{IsRuled}
use Rattle.data_encoding_meaning.proofs.lists.RunLemmas.{div_ceil-runs, run_count}
use Rattle.data_encoding.proofs.tables.TableRuleLemmas.{is_base_of}
use Rattle.data_encoding.proofs.text.LineTableLemmas.{IsRuled-seen, unwrapped-seen, wrapping-seen}
use Rattle.data_encoding_meaning.proofs.text.LineLemmas.{are, length-lines, text-most}
use Rattle.data_encoding_meaning.proofs.text.PaddedTextLemmas.{text_of-unwrapped}
use Rattle.data_encoding.proofs.encoding.EncodingRef.encode_len.Goals as goal

least : (base : Base) (len count : ℕ)
    → ((bytes : List ℕ) → length bytes ≡ len → length (text_of base bytes) ≡ count)
    → IsRuled base → count ≤ 263 * len
least base len count counted ruled =
    let some : List ℕ = replicate len 0 in
    let is : length some ≡ len = length-replicate len 0 in
    omega (arith, counted some is, text-most base ruled some, is)

pub returns-then-self-eq0 : goal.returns-then-self-eq0
returns-then-self-eq0 c =
    let seen = c.args.self.now in
    let unwrapped = unwrapped-seen _ c.self.invariant seen c.self.view_is c.if-self-eq0.true in
    let counted : (bytes : List ℕ) → length bytes ≡ c.args.len
    → length (text_of seen bytes) ≡ c.padded_len-count.result =
    λ bytes h. ap length (text_of-unwrapped seen bytes unwrapped)
    ∙ c.padded_len-count.ensures.length bytes h in
    record {
      length = counted;
      most = least seen c.args.len c.padded_len-count.result counted
          (IsRuled-seen _ c.self.invariant seen c.self.view_is);
      empty = c.padded_len-count.ensures.empty;
      base = rw (← c.self.view_is) (is_base_of _ c.self.invariant);
    }

pub returns : goal.returns
returns c =
    let e = plain_tables c.self.inside.fields.now c.self.inside.separator.now in
    let seen = c.args.self.now in
    let ruled = IsRuled-seen _ c.self.invariant seen c.self.view_is in
    let wrapping = wrapping-seen _ c.self.invariant seen c.self.view_is c.if-self-eq0.false in
    let count = c.padded_len-count.result in
    let lines : c.div_ceil.result ≡ run_count e.column count =
    c.div_ceil.ensures ∙ div_ceil-runs e.column count (are seen ruled _ wrapping).some in
    let counted : (bytes : List ℕ) → length bytes ≡ c.args.len
    → length (text_of seen bytes)
    ≡ count + c.div_ceil.result * length e.separator =
    λ bytes h. length-lines seen ruled _ wrapping bytes
    ∙ ap (λ n. n + run_count e.column n * length e.separator)
    (c.padded_len-count.ensures.length bytes h)
    ∙ (λ k. count + sym lines k * length e.separator) in
    let most = least seen c.args.len _ counted ruled in
    record {
      length = counted;
      most = most;
      empty = λ none. omega (arith, most, none);
      base = rw (← c.self.view_is) (is_base_of _ c.self.invariant);
    }

pub overflow_mul-result : goal.overflow_mul-result
overflow_mul-result c = record { fits = omega (arith, (returns c).most, c.requires.limit) }

pub overflow_add-result : goal.overflow_add-result
overflow_add-result c = record { fits = omega (arith, (returns c).most, c.requires.limit) }
