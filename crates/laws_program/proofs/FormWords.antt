-- Arguments (words) that are a subcommand (form).
use Rattle.std.proofs.Common.{◌≡◌, ◌∙◌, ℕ, List, Option, Some, None, refl, sym, subst}
use Rattle.laws_program.proofs.Common.{Status, DriveCounts, Form, form_of, ports_file_of, RunsOver, Stand, RanOver, Performed}
use Rattle.floppy_words.proofs.PortsLemmas.{no_form}

-- arguments that are a subcommand name no text of port accesses
no_ports : (words : List (List ℕ)) (asked : Form) (file : Option (List ℕ)) → form_of words ≡ Some asked → ports_file_of words ≡ file → file ≡ None
no_ports words asked (Some file) is spelled = let none = no_form words file spelled in absurd cc
no_ports words asked None is spelled = refl

pub form_ran : (words : List (List ℕ)) (asked : Form) (spares : List DriveCounts) (old new : Stand) (ended : Status) → form_of words ≡ Some asked
    → Performed words spares old new ended → RanOver (Some asked) spares old new ended
form_ran words asked spares old new ended is performed =
    let none = no_ports words asked (ports_file_of words) is refl in
    record {
      runs = subst (λ (f : Option Form). RunsOver f old.board spares old.outside.outside new.board new.outside.outside ended) is (performed.does.runs none);
      bad_words = λ bad. sym is ∙ (performed.does.bad_words bad).0;
      shelf_faults = performed.shelf_faults;
      sink_faults = performed.sink_faults;
    }
