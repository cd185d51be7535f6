use Rattle.std.proofs.Common.{◌≡◌, ℕ, ◌-◌, ◌<◌, ◌≤◌, length, replicate, slice_index, take, ap, ◌∙◌, subst}
use Rattle.std.proofs.lemmas.List.{get_or_append_left, take-append-le}
use Rattle.data_encoding_kernel.proofs.digits.GroupFrontLemmas.{front-same}
use Rattle.data_encoding_kernel.proofs.words.front_of_group.Goals as goal

pub returns : goal.returns
returns g c =
    let values = c.args.values.now in
    let group = c.args.group.now in
    let found = c.decode_front.result in
    let front = c.decode_front.ensures in
    let same : (k : ℕ) → k < length group
    → slice_index c.load_padded.result k ≡ slice_index group k =
    λ k h. ap (λ l. slice_index l k) c.load_padded.ensures ∙ get_or_append_left group _ 0 k h in
    record {
      few = front.few;
      stop = λ inside.
          subst (λ byte. 128 ≤ slice_index values byte) (same found.symbols inside)
          (front.stop values c.requires.held inside);
      others = λ k h. (
        λ clear. subst (λ byte. slice_index values byte < 128) (same k h)
            (front.others values c.requires.held k h clear),
        λ set. subst (λ byte. 128 ≤ slice_index values byte) (same k h)
            (front.marked values c.requires.held k h set),
      );
      front = λ base reads.
          front-same base c.load_padded.result group found.symbols found.bytes
          (ap (take found.symbols) c.load_padded.ensures
          ∙ take-append-le found.symbols group (replicate (16 - length group) 0) front.few)
          (front.front values c.requires.held base reads);
    }
