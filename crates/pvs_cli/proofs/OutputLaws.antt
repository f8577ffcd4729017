-- What a run writes: each input has one output, and what was given to the sink is that, or a proper prefix of it.
use Rattle.std.proofs.Common.{◌≡◌, ◌∙◌, ◌+◌, ◌^◌, ◌≤◌, ◌<◌, ◌⊎◌, inl, inr, ℕ, Bool, true, false, List, [], ◌∷◌, ◌++◌, length, take, drop, if◌then◌else◌, Option, Some, None, Result, refl, sym, ap, ap₂, subst, arith, append_assoc, append-nil, take-add, drop-drop, length-append}
use Rattle.std.specs.Prelude.{⊤}
use Rattle.std.specs.List.{list_any}
use Rattle.std.proofs.lemmas.List.{take_all}
use Rattle.pvs_base.specs.declared.code.Fault.{Fault}
use Rattle.pvs_syntax.specs.declared.unit.Unit as unit
use Rattle.pvs_parser.specs.Text.{IsAnswer}
use Rattle.pvs_parser.specs.code.Reading.{read_text}
use Rattle.pvs_parser.proofs.Texts.{text_answer}
use Rattle.pvs_io.specs.declared.sink.Gave.TheVariants as gave
use Rattle.pvs_io.specs.Outside.{Gives}
use Rattle.pvs_cli.specs.declared.input.Input.{Input}
use Rattle.pvs_cli.specs.declared.input.Input.TheVariants as input
use Rattle.pvs_cli.specs.declared.status.Status.{Status}
use Rattle.pvs_cli.specs.declared.status.Status.TheVariants as status
use Rattle.pvs_report.specs.Lines.{Line, TotalLine, bytes_of, line_bytes, line_text, totals_of}
use Rattle.pvs_cli.specs.Reporting.{IsReport, answer_lines, of_text, with_total}
use Rattle.pvs_cli.specs.code.Reading.{ReadsText}
use Rattle.pvs_cli.specs.Output.{Adds, HasOneOutput, IsCheck, IsOutput, Writes, WritesOutput, exit_status, has_whole_output, is_unfinished, report, text_of, usage, usage_line}
use Rattle.pvs_cli.specs.code.Writing.{IsReportOf, WritesReport, WritesReportOf}
use Rattle.pvs_report.proofs.LineLaws.{bytes_push}
use Rattle.pvs_cli.proofs.ReportOf.{OneAnswer, one_report}
use Rattle.pvs_script.specs.code.Reading.{script_of}
use Rattle.pvs_script.proofs.Verdicts.{script_answer}

-- each text has an answer
answer_exists : (text : List ℕ) → (a : Result unit.Unit Fault) × IsAnswer text a
answer_exists text = (read_text text, text_answer text)

same_output : OneAnswer → (words : List (List ℕ)) (input bytes others : List ℕ) (end other : Status) → IsOutput words input bytes end → IsOutput words input others other → (bytes ≡ others) × (end ≡ other)
same_output one words input _ _ _ _ (usage n) (usage m) = (refl, refl)
same_output one words input _ _ _ _ (usage n) (report c ls r) = absurd (n c)
same_output one words input _ _ _ _ (report c ls r) (usage n) = absurd (n c)
same_output one words input _ _ _ _ (report c ls r) (report d ms q) =
    let e : ls ≡ ms = one_report one (text_of input) ls ms r q in (ap bytes_of e, ap exit_status e)

-- for all words and each input there is at most one output
pub one_output : OneAnswer → (words : List (List ℕ)) → HasOneOutput words
one_output one words = same_output one words

status_whole : (b : Bool) → has_whole_output (if b then status.Unfinished else status.Clean) ≡ true
status_whole true = refl
status_whole false = refl

-- a report has bytes: at least the line feed of its last line
report_lines_some : (ls : List Line) → 0 < length (bytes_of (with_total ls))
report_lines_some ls =
    let last : Line = TotalLine (totals_of ls) in
    let e : bytes_of (with_total ls) ≡ bytes_of ls ++ line_bytes last = bytes_push ls last in
    let n : length (line_bytes last) ≡ length (line_text last) + 1 = length-append (line_text last) (10 ∷ []) in
    subst (λ (xs : List ℕ). 0 < length xs) (sym e) (omega (arith, length-append (bytes_of ls) (line_bytes last), n))

report_some : (text : List ℕ) (ls : List Line) → IsReport text ls → 0 < length (bytes_of ls)
report_some text _ (of_text s r a h) = report_lines_some (answer_lines s text a)

pub report_of_some : (text bytes : List ℕ) (end : Status) → IsReportOf text bytes end → 0 < length bytes
report_of_some text bytes end r = subst (λ (xs : List ℕ). 0 < length xs) (sym r.2) (report_some text r.0 r.1)

-- each text has a report
pub each_has_report : (text : List ℕ) → (bytes : List ℕ) × (end : Status) × IsReportOf text bytes end
each_has_report text =
    let a = answer_exists text in
    let lines : List Line = with_total (answer_lines script_of text a.0) in
    (bytes_of lines, exit_status lines, (lines, of_text script_of script_answer a.0 a.1, refl, refl))

-- the bytes before the rest were added
abbrev pub AddsUpTo : Option (List ℕ) → Option (List ℕ) → List ℕ → List ℕ → Type 0
AddsUpTo None None bytes rest = ⊤
AddsUpTo None (Some new) bytes rest = ⊥
AddsUpTo (Some old) None bytes rest = ⊥
AddsUpTo (Some old) (Some new) bytes rest = (k : ℕ) × (new ≡ old ++ take k bytes) × (rest ≡ drop k bytes)

-- one more piece was given
pub given_more : (old now new : Option (List ℕ)) (bytes rest : List ℕ) (n : ℕ) → AddsUpTo old now bytes rest → Gives now new (gave.Bytes n) rest → AddsUpTo old new bytes (drop n rest)
given_more None None None bytes rest n h g = g
given_more None None (Some c) bytes rest n h g = absurd g
given_more None (Some b) new bytes rest n h g = absurd h
given_more (Some a) None new bytes rest n h g = absurd h
given_more (Some a) (Some b) None bytes rest n h g = absurd g
given_more (Some a) (Some b) (Some c) bytes rest n h g = (
  h.0 + n,
  g ∙ ap₂ (λ (xs ys : List ℕ). xs ++ take n ys) h.1 h.2 ∙ append_assoc a (take h.0 bytes) (take n (drop h.0 bytes)) ∙ ap (λ (xs : List ℕ). a ++ xs) (sym (take-add h.0 n bytes)),
  ap (drop n) h.2 ∙ drop-drop n h.0 bytes,
)

-- nothing was given of some bytes
none_given : (old : Option (List ℕ)) (bytes : List ℕ) → 0 < length bytes → Adds old old false bytes
none_given None bytes some = tt
none_given (Some a) bytes some = (0, some, sym (append-nil a))

-- the run ended with a fault before it wrote anything
pub nothing_written : {Meant : List ℕ → Status → Type 0} (old : Option (List ℕ)) (result : Status) (bytes : List ℕ) (end : Status) → has_whole_output result ≡ false → 0 < length bytes → Meant bytes end → WritesOutput Meant old old result
nothing_written old result bytes end fault some meant = record {
  bytes = bytes;
  end = end;
  meant = meant;
  added = subst (λ b. Adds old old b bytes) (sym fault) (none_given old bytes some);
  status = λ whole. let h : true ≡ false = sym whole ∙ fault in cc;
}

-- all of some bytes were given, or a proper prefix, and the run ended accordingly
pub all_given : {Meant : List ℕ → Status → Type 0} (old new : Option (List ℕ)) (result : Status) (bytes : List ℕ) (end : Status) → Meant bytes end → Adds old new (has_whole_output result) bytes → (has_whole_output result ≡ true → result ≡ end) → WritesOutput Meant old new result
all_given old new result bytes end meant added same = record { bytes = bytes; end = end; meant = meant; added = added; status = same }

-- a run that wrote a whole report ends as reports do
report_end : (text bytes : List ℕ) (end : Status) → IsReportOf text bytes end → has_whole_output end ≡ true
report_end text bytes end r = ap has_whole_output r.3 ∙ status_whole (list_any is_unfinished r.0)

-- a report was given whole
pub report_given : (text : List ℕ) (old new : Option (List ℕ)) (bytes given : List ℕ) (end : Status) → IsReportOf text bytes end → given ≡ bytes → Adds old new true given → WritesReportOf text old new end
report_given text old new bytes given end r same added =
    let part : Bool → List ℕ → Type 0 = λ b xs. Adds old new b xs in
    all_given old new end bytes end r (subst (λ b. part b bytes) (sym (report_end text bytes end r)) (subst (part true) same added)) (λ whole. refl)

-- a proper prefix of a report was given
pub report_cut : (text : List ℕ) (old new : Option (List ℕ)) (bytes given : List ℕ) (end : Status) → IsReportOf text bytes end → given ≡ bytes → Adds old new false given → WritesReportOf text old new status.OutputFault
report_cut text old new bytes given end r same added = all_given old new status.OutputFault bytes end r (subst (Adds old new false) same added) (λ whole. cc)

-- there was no memory for the report
pub report_missing : (text : List ℕ) (old : Option (List ℕ)) → WritesReportOf text old old status.Memory
report_missing text old =
    let r = each_has_report text in
    nothing_written old status.Memory r.0 r.1 refl (report_of_some text r.0 r.1 r.2) r.2

-- what is meant by one definition is meant by another
pub meant_otherwise : {Meant Other : List ℕ → Status → Type 0} → ((bytes : List ℕ) (end : Status) → Meant bytes end → Other bytes end) → (old new : Option (List ℕ)) (result : Status) → WritesOutput Meant old new result → WritesOutput Other old new result
meant_otherwise f old new result w = record { bytes = w.bytes; end = w.end; meant = f w.bytes w.end w.meant; added = w.added; status = w.status }

-- a whole text was read, and its report written
pub report_written : (old new before after : Option (List ℕ)) (text : List ℕ) (result : Status) → ReadsText (2 ^ 20 + 1) old new text input.Whole → length text ≤ 2 ^ 20 + 1 → WritesOutput (IsReportOf text) before after result → WritesReport old new before after result
report_written None None before after text result t le w =
    (text, le, meant_otherwise (λ bytes end. subst (λ (xs : List ℕ). IsReportOf xs bytes end) (sym (take_all (2 ^ 20 + 1) text le))) before after result w)
report_written None (Some c) before after text result t le w = t
report_written (Some a) None before after text result t le w = t
report_written (Some a) (Some c) before after text result t le w = meant_otherwise (λ bytes end. subst (λ (xs : List ℕ). IsReportOf xs bytes end) t.0) before after result w

-- the text was not read, and nothing was written
pub report_unwritten : (old new written : Option (List ℕ)) (text : List ℕ) (answer : Input) (result : Status) → ReadsText (2 ^ 20 + 1) old new text answer → has_whole_output result ≡ false → WritesReport old new written written result
report_unwritten None None written text answer result t fault =
    let r = each_has_report (text_of []) in
    ([], omega arith, nothing_written written result r.0 r.1 fault (report_of_some (text_of []) r.0 r.1 r.2) r.2)
report_unwritten None (Some c) written text answer result t fault = t
report_unwritten (Some a) None written text answer result t fault = t
report_unwritten (Some a) (Some c) written text answer result t fault =
    let r = each_has_report (text_of a) in
    nothing_written written result r.0 r.1 fault (report_of_some (text_of a) r.0 r.1 r.2) r.2

report_meant : (words : List (List ℕ)) → IsCheck words → (input bytes : List ℕ) (end : Status) → IsReportOf (text_of input) bytes end → IsOutput words input bytes end
report_meant words c input bytes end r =
    subst (λ (xs : List ℕ). IsOutput words input xs end) (sym r.2) (subst (IsOutput words input (bytes_of r.0)) (sym r.3) (report c r.0 r.1))

-- with the word check the report is what is to be written
pub check_written : (words : List (List ℕ)) (old new before after : Option (List ℕ)) (result : Status) → IsCheck words → WritesReport old new before after result → Writes words old new before after result
check_written words None None before after result c w = (w.0, w.1, meant_otherwise (report_meant words c w.0) before after result w.2)
check_written words None (Some l) before after result c w = w
check_written words (Some a) None before after result c w = w
check_written words (Some a) (Some l) before after result c w = meant_otherwise (report_meant words c a) before after result w

-- a run that wrote the whole usage line ends so
usage_end : (end : Status) → (end ≡ status.BadWords) ⊎ (end ≡ status.OutputFault) → has_whole_output end ≡ true → end ≡ status.BadWords
usage_end end (inl e) h = e
usage_end end (inr e) h = let f : false ≡ true = sym (ap has_whole_output e) ∙ h in cc

-- with other words it is the usage line
pub usage_written : (words : List (List ℕ)) (left before after : Option (List ℕ)) (result : Status) → (IsCheck words → ⊥) → (result ≡ status.BadWords) ⊎ (result ≡ status.OutputFault) → Adds before after (has_whole_output result) usage_line → Writes words left left before after result
usage_written words None before after result n ends added =
    ([], omega arith, all_given before after result usage_line status.BadWords (usage n) added (usage_end result ends))
usage_written words (Some input) before after result n ends added =
    all_given before after result usage_line status.BadWords (usage n) added (usage_end result ends)
