use Rattle.std.proofs.Common.{◌≡◌, ◌++◌, length, drop, ◌∙◌, refl, ap, subst, arith}
use Rattle.data_encoding.specs.Fields.{Fields}
use Rattle.data_encoding.specs.Layout.{fields_of}
use Rattle.data_encoding_calls.specs.Facts.{texts_of}
use Rattle.data_encoding_calls.specs.Custom.{fields_asked}
use Rattle.data_encoding_calls.specs.Status.{ok, short_buffer}
use Rattle.data_encoding_calls.proofs.EncoderStateLemmas.{if-less, if-not}
use Rattle.data_encoding_calls.proofs.specification_of_encoding.specification.Goals as goal

pub returns-then-texts-bytes : goal.returns-then-texts-bytes
returns-then-texts-bytes c =
    let texts = texts_of (fields_of c.args.encoding.now) in
    let same : c.as_slice-bytes.result.now ≡ texts =
    c.as_slice-bytes.ensures.value ∙ c.joined-bytes.ensures
    ∙ ap texts_of c.specification_bytes-given.ensures in
    record {
      status =
          if-less (length c.args.texts.now) (length texts) short_buffer ok
          (omega (arith, ap length same, c.if-texts-bytes.true));
      texts = λ is. absurd (cc is);
      asks = λ is. absurd (cc is);
      refused = λ _. refl;
    }

pub returns : goal.returns
returns c =
    let given = c.specification_bytes-given.ensures in
    let texts = texts_of (fields_of c.args.encoding.now) in
    let bytes = c.as_slice-bytes.result.now in
    let old = c.args.texts.now in
    let same : bytes ≡ texts =
    c.as_slice-bytes.ensures.value ∙ c.joined-bytes.ensures ∙ ap texts_of given in
    record {
      status =
          if-not (length old) (length texts) short_buffer ok
          (omega (arith, ap length same, c.if-texts-bytes.false));
      texts = λ _.
          ap (λ l. l ++ drop (length bytes) old) (c.copy_from_slice.ensures.after ∙ same)
          ∙ ap (λ n. texts ++ drop n old) (ap length same);
      asks = λ _. record {
        fields_are =
            subst
            (λ (f : Fields). fields_asked c.form_of.result f.symbols f.ignored f.separator f.from
            f.to ≡ f) given c.form_of.ensures;
        symbols = c.len.ensures.value ∙ ap (λ (f : Fields). length f.symbols) given;
        ignore = c.len-2.ensures.value ∙ ap (λ (f : Fields). length f.ignored) given;
        separator = c.len-3.ensures.value ∙ ap (λ (f : Fields). length f.separator) given;
        from = c.len-4.ensures.value ∙ ap (λ (f : Fields). length f.from) given;
        to = c.len-5.ensures.value ∙ ap (λ (f : Fields). length f.to) given;
      };
      refused = λ refused. absurd (refused refl);
    }
