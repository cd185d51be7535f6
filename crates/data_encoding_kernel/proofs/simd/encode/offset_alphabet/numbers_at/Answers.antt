use Rattle.data_encoding_kernel.proofs.digits.OffsetAlphabetLemmas.{row-at_places, places-within}
use Rattle.data_encoding_kernel.proofs.simd.encode.offset_alphabet.numbers_at.Goals as goal

pub swizzle : goal.swizzle
swizzle c = places-within c.args.places c.fits-places.0 c.requires

pub returns : goal.returns
returns c =
    row-at_places c.args.numbers c.args.places c.fits-numbers.0 c.fits-places.0 c.requires
