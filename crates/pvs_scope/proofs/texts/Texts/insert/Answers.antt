use Rattle.std.proofs.Common.{◌≡◌, Some, cond, map, subst, sym, ap, ◌∙◌}
use Rattle.std.specs.Prelude.{bytes_eq}
use Rattle.pvs_scope.specs.code.Tables.{name_of}
use Rattle.pvs_scope.proofs.TableLaws.{lookup_map, text_set}
use Rattle.pvs_scope.proofs.texts.Texts.insert.Goals as goal

pub returns : goal.returns
returns c x =
    let old = c.self.inside.names.entries in
    let new = c.insert.new.self.entries in
    let owned = c.in_ok-owned.owned in
    let updates = c.in_ok-insert.ensures.updates in
    subst (λ m. name_of (map (λ e. (e.0.items, e.1)) new) x ≡ cond (bytes_eq c.args.text.now x) (Some c.args.name) (name_of m x)) c.self.view_is
    (lookup_map (λ k. k.items) (bytes_eq x) new
    ∙ text_set (λ k. k.items) old new owned c.args.name c.args.text.now c.in_ok-owned.ensures.items updates.1 updates.3 x
    ∙ ap (cond (bytes_eq c.args.text.now x) (Some c.args.name)) (sym (lookup_map (λ k. k.items) (bytes_eq x) old)))
