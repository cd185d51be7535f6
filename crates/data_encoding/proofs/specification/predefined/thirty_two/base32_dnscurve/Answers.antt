use Rattle.data_encoding.proofs.specification.predefined.thirty_two.base32_dnscurve.Goals as goal

pub returns : goal.returns
returns c = cc
