use Rattle.std.proofs.Common.{sym, subst, arith}
use Rattle.data_encoding_kernel.specs.Affine.{HoldsAffine, form_of}
use Rattle.data_encoding_kernel.proofs.digits.PlainAffineLemmas.{agrees-holds}
use Rattle.data_encoding_kernel.proofs.value_table.ValueTable.affine.Goals as goal

pub returns : goal.returns
returns c =
    subst (HoldsAffine c.args.self.now.entries) (sym c.form.ensures)
    (record {
      agrees = agrees-holds (form_of c.args.self.now.form) c.args.self.now.entries (omega arith)
          (rw c.requires.form at c.requires.agrees);
      ascii = c.requires.ascii;
    })
