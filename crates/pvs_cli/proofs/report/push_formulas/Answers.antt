use Rattle.std.proofs.Common.{◌<◌, ◌≤◌, ◌∙◌, ◌++◌, flat_map, length, take, map, rules, ap, sym, append_assoc}
use Rattle.std.proofs.lemmas.List.{take_all}
use Rattle.pvs_theory.specs.Entries.{Entry}
use Rattle.pvs_theory.specs.code.Shown.{entries_shown, entry_shown}
use Rattle.pvs_theory.proofs.Loops.{flat_push}
use Rattle.pvs_report.specs.Printed.{lines_shown}
use Rattle.pvs_cli.specs.code.LemmaIndex.{word_in}
use Rattle.pvs_cli.specs.Reporting.{entry_lines, formula_lines}
use Rattle.pvs_cli.proofs.Loops.{shown_more}
use Rattle.pvs_cli.proofs.report.push_formulas.Goals as goal

pub loop-entry-preserved : goal.loop-entry-preserved
loop-entry-preserved c = λ s.
    let es = c.args.entries.now in
    let i = c.loop-entry.entry-index in
    let e = c.entry-item.result in
    let shown = entry_shown s c.args.text.now in
    let lines = λ (f : Entry). entry_lines (word_in c.args.proved.now) c.args.theory.now f.name f.kind in
    let first = lines_shown c.args.lines.now.items in
    let inside : c.loop-entry.entry-index < length c.args.entries.now = search rules in
    c.in_ok-push_some.ensures
    ∙ (ap (λ ls. lines_shown c.loop-entry.lines.items ++ ls) (c.entry_line.ensures s)
    ∙ (ap (λ ls. ls ++ lines (shown e)) (c.loop-entry.invariant s)
    ∙ (append_assoc first (flat_map lines (map shown (take i es))) (lines (shown e))
    ∙ ap (λ ls. first ++ ls) (sym (ap (flat_map lines) (shown_more shown es i e inside c.entry-item.is) ∙ flat_push lines (map shown (take i es)) (shown e))))))

pub returns : goal.returns
returns c = λ s.
    let past : length c.args.entries.now ≤ c.loop-entry.entry-index = search rules in
    c.loop-entry.invariant s
    ∙ ap (λ es. lines_shown c.args.lines.now.items ++ formula_lines (word_in c.args.proved.now) c.args.theory.now (entries_shown s c.args.text.now es)) (take_all c.loop-entry.entry-index c.args.entries.now past)
