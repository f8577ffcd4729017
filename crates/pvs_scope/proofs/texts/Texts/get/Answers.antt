use Rattle.std.proofs.Common.{sym, ap, ◌∙◌}
use Rattle.std.specs.Prelude.{bytes_eq, option_copied}
use Rattle.pvs_scope.specs.code.Tables.{name_of}
use Rattle.pvs_scope.proofs.TableLaws.{lookup_map}
use Rattle.pvs_scope.proofs.texts.Texts.get.Goals as goal

pub returns-in-Some : goal.returns-in-Some
returns-in-Some c =
    ap option_copied (sym c.in-Some.is) ∙ c.get.ensures.value ∙ sym (lookup_map (λ k. k.items) (bytes_eq c.args.text.now) c.self.inside.names.entries) ∙ ap (λ m. name_of m c.args.text.now) c.self.view_is

pub returns-in-None : goal.returns-in-None
returns-in-None c =
    ap option_copied (sym c.in-None.is) ∙ c.get.ensures.value ∙ sym (lookup_map (λ k. k.items) (bytes_eq c.args.text.now) c.self.inside.names.entries) ∙ ap (λ m. name_of m c.args.text.now) c.self.view_is
