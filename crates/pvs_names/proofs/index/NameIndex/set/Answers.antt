use Rattle.std.proofs.Common.{◌≡◌, Some, cond, subst, sym, ap₂, ◌∙◌}
use Rattle.pvs_names.specs.code.Index.{found_of, key_eq}
use Rattle.pvs_names.specs.contracts.key.KeyPartialEq.TheImpl as keys
use Rattle.pvs_names.proofs.KeyLaws.{key_same, lookup_same}
use Rattle.pvs_names.proofs.index.NameIndex.set.Goals as goal

pub returns : goal.returns
returns c k =
    subst (λ m. found_of c.insert.new.self.entries k ≡ cond (key_eq c.args.key k) (Some c.args.found) (found_of m k)) c.self.view_is
    (sym (lookup_same _ (key_eq k) (key_same k) c.insert.new.self.entries)
    ∙ c.in_ok-insert.ensures.updates.0 k
    ∙ ap₂ (λ b o. cond b (Some c.args.found) o) (key_same c.args.key k) (lookup_same _ (key_eq k) (key_same k) _))
