use Rattle.std.proofs.Common.{ap, ◌+◌, ◌∷◌, []}
use Rattle.pvs_terms.specs.Stored.{tree_at}
use Rattle.pvs_printer.specs.declared.words.Sign.TheVariants as sign
use Rattle.pvs_printer.specs.Form.{Bound}
use Rattle.pvs_printer.specs.Pieces.{Space, Fixed, Named}
use Rattle.pvs_printer.specs.code.Tasks.{Write, Print, row_tasks}
use Rattle.pvs_printer.specs.code.RowsAt.{row_at}
use Rattle.pvs_printer.specs.declared.row.Row.TheVariants as row
use Rattle.pvs_printer.proofs.row_tasks.push_quantified.Goals as goal

pub returns : goal.returns
returns c = λ s vars ha hp.
    c.push.ensures s (λ names. row_tasks names vars c.args.depth (row_at s (row.Quantified c.args.word c.args.ty c.args.body))) (tt, (tt, (tt, (tt, (tt, (tt, (ha, (tt, (tt, (tt, (hp, tt)))))))))))
    (λ names. ap (λ w. Write (Fixed w) ∷ Write Space ∷ Write (Fixed sign.Open) ∷ Write (Named (Bound (c.args.depth + 1))) ∷ Write (Fixed sign.Colon) ∷ Write Space ∷ Print c.args.depth (tree_at s c.args.ty)
    ∷ Write (Fixed sign.Close) ∷ Write (Fixed sign.Colon) ∷ Write Space ∷ Print (c.args.depth + 1) (tree_at s c.args.body) ∷ []) c.binder_sign.ensures)
