-- The lines of a survey, one after the other, and what is put of them.
use Rattle.std.proofs.Common.{◌≡◌, ℕ, ◌+◌, ◌<◌, suc, List, [], ◌∷◌, ◌++◌, length, take, drop, get_or, drop-cons, ap, ◌∙◌, sym, subst, Option}
use Rattle.std.proofs.lemmas.List.{take-append-drop, take_more, map-append}
use Rattle.flop_base.specs.Sink.{grown, GrowsByPart}
use Rattle.remaster.specs.declared.lines.SurveyLine.{SurveyLine}
use Rattle.flop_base.specs.declared.answers.Status.{Status}
use Rattle.flop_base.specs.declared.answers.Status.TheVariants as status
use Rattle.sector_model.specs.Plays.{Prints, Whole, Part, IsPutFault}
use Rattle.commands.proofs.DumpLines.{grown-twice, part-behind, part-longer}
use Rattle.archive_commands.specs.Surveys.{field_line, field_lines, end_line, survey_lines}

-- one line more
lines_more : (lines : List SurveyLine) (i : ℕ) (d : SurveyLine) → i < length lines → field_lines (take (i + 1) lines) ≡ field_lines (take i lines) ++ field_line (get_or lines i d) ∷ []
lines_more lines i d within =
    ap field_lines (take_more lines i d within)
    ∙ map-append field_line (take i lines) (get_or lines i d ∷ [])

-- a line was put whole
pub line_put : (told before now : Option (List (List ℕ))) (lines : List SurveyLine) (i : ℕ) (d : SurveyLine) → before ≡ grown told (field_lines (take i lines)) → i < length lines → now ≡ grown before (field_line (get_or lines i d) ∷ []) → now ≡ grown told (field_lines (take (i + 1) lines))
line_put told before now lines i d so_far within put =
    put ∙ ap (λ (b : Option (List (List ℕ))). grown b (field_line (get_or lines i d) ∷ [])) so_far
    ∙ grown-twice told (field_lines (take i lines)) (field_line (get_or lines i d) ∷ [])
    ∙ ap (grown told) (sym (lines_more lines i d within))

-- the lines before one, this line, and those after it are all
parted : (lines : List SurveyLine) (i : ℕ) (d : SurveyLine) → i < length lines → field_lines (take i lines) ++ field_line (get_or lines i d) ∷ field_lines (drop (suc i) lines) ≡ field_lines lines
parted lines i d within =
    sym (map-append field_line (take i lines) (get_or lines i d ∷ drop (suc i) lines))
    ∙ ap (λ (later : List SurveyLine). field_lines (take i lines ++ later)) (sym (drop-cons lines i d within))
    ∙ ap field_lines (take-append-drop i lines)

-- a line was cut: a part of all lines was put
pub line_cut : (told before now : Option (List (List ℕ))) (lines : List SurveyLine) (i : ℕ) (d : SurveyLine) → before ≡ grown told (field_lines (take i lines)) → i < length lines → GrowsByPart before (field_line (get_or lines i d) ∷ []) now → GrowsByPart told (field_lines lines) now
line_cut told before now lines i d so_far within cut =
    let there : GrowsByPart (grown told (field_lines (take i lines))) (field_line (get_or lines i d) ∷ []) now = subst (λ (b : Option (List (List ℕ))). GrowsByPart b (field_line (get_or lines i d) ∷ []) now) so_far cut in
    subst (λ (text : List (List ℕ)). GrowsByPart told text now) (parted lines i d within)
    (part-behind told now (field_lines (take i lines)) (field_line (get_or lines i d) ∷ []) (field_lines (drop (suc i) lines)) there)

-- the last line was put after the others
pub end_put : (told mid now : Option (List (List ℕ))) (lines : List SurveyLine) (ended : Status) → mid ≡ grown told (field_lines lines) → Prints (end_line (length lines) ∷ []) status.AllOk mid now ended → Prints (survey_lines lines) status.AllOk told now ended
end_put told mid now lines ended before (Whole grows ok) =
    Whole (grows ∙ ap (λ (b : Option (List (List ℕ))). grown b (end_line (length lines) ∷ [])) before ∙ grown-twice told (field_lines lines) (end_line (length lines) ∷ [])) ok
end_put told mid now lines ended before (Part grows fault) =
    let there : GrowsByPart (grown told (field_lines lines)) (end_line (length lines) ∷ []) now = subst (λ (b : Option (List (List ℕ))). GrowsByPart b (end_line (length lines) ∷ []) now) before grows in
    Part (part-behind told now (field_lines lines) (end_line (length lines) ∷ []) [] there) fault

-- a part of the lines is a part of the survey
pub fields_cut : (told now : Option (List (List ℕ))) (lines : List SurveyLine) (ended : Status) → GrowsByPart told (field_lines lines) now → IsPutFault ended → Prints (survey_lines lines) status.AllOk told now ended
fields_cut told now lines ended grows fault = Part (part-longer told now (field_lines lines) (end_line (length lines) ∷ []) grows) fault
