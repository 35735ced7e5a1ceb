-- Flat sector files of any geometry.
use Rattle.std.specs.Prelude.{◌≡◌, ◌==◌, ℕ, List, length, Option, None, Some, option_map, Result, Ok, Err, MatchBool, MatchOption, ⊤}
use Rattle.telwyddus_c.specs.Common.{Vec, TrayValue, GivesForm, IsFirstCrowded, Disk, narrow_gap}
use Rattle.flat_files.specs.Forms.{IsForm, file_length}
use Rattle.flat_files.specs.FormMaking.{HasForm, form_image}
use Rattle.flat_files.specs.declared.file_fault.FileFault.{FileFault}
use Rattle.flat_files.specs.declared.file_fault.FileFault.TheVariants.{NoForm, Flat}
use Rattle.flat_files.specs.declared.form.FlatForm.{FlatForm}
use Rattle.telwyddus_c.specs.Flats.{TellsFlat}
use Rattle.telwyddus_c.specs.Rates.{rate_named}
use Rattle.telwyddus_c.specs.Slots.{FullOr}

-- the form of these numbers. No rate but 500 and 250 is taken
abbrev pub form_named : (cylinders heads sectors n kilobits : ℕ) → Option FlatForm
form_named cylinders heads sectors n kilobits =
    option_map (λ rate. record { cylinders = cylinders; heads = heads; sectors = sectors; n = n; rate = rate }) (rate_named kilobits)

-- some track has no room for its sectors, however narrow the gaps between them
abbrev pub IsCrowdedForm : FlatForm → List ℕ → Type 0
IsCrowdedForm form bytes = (c : ℕ) × (h : ℕ) × (i : ℕ) × IsFirstCrowded narrow_gap (form_image form bytes) c h i

-- an empty slot gets a tray with a medium that has the sectors of a file of this form and no others. By the code of the
-- call:
-- - 0: the tray is made;
-- - 4: there is no such form;
-- - 5: the file has another length;
-- - 21: a track has no room for its sectors;
-- - 3: memory is out.
-- after every code but 0 the slot stays as it was
abbrev pub FillsForm : FlatForm → List ℕ → ℕ → Option TrayValue → Option TrayValue → Type 0
FillsForm form bytes code old new =
    MatchBool (code == 0) ((disk : Disk) × HasForm form bytes disk × (new ≡ Some (record { medium = Some disk })))
    (MatchBool (code == 4) ((IsForm form → ⊥) × (new ≡ old))
    (MatchBool (code == 5) ((length bytes ≡ file_length form → ⊥) × (new ≡ old))
    (MatchBool (code == 21) (IsCrowdedForm form bytes × (new ≡ old))
    (MatchBool (code == 3) (new ≡ old) ⊥))))

-- a slot gets a tray with the medium of a file of the form that numbers name. If they name none, the code is 4, and if
-- the slot holds a tray already, it is 2
abbrev pub ReadsForm : List ℕ → (cylinders heads sectors n kilobits code : ℕ) → Option TrayValue → Option TrayValue → Type 0
ReadsForm bytes cylinders heads sectors n kilobits code old new =
    FullOr code old new ⊤
    (MatchOption (form_named cylinders heads sectors n kilobits) ((code ≡ 4) × (new ≡ old)) (λ form. FillsForm form bytes code old new))

-- nothing is written or reported, for one reason
abbrev pub TellsNone : (reason code : ℕ) → List ℕ → List ℕ → (was told c_was c_told h_was h_told : ℕ) → Type 0
TellsNone reason code old new was told c_was c_told h_was h_told =
    (code ≡ reason) × (new ≡ old) × (told ≡ was) × (c_told ≡ c_was) × (h_told ≡ h_was)

-- the flat file is written to a buffer, or the reason why there is none is reported, and all else stays. If there is no
-- such form, the code is 4
abbrev pub TellsForm : Result (Vec ℕ) FileFault → ℕ → List ℕ → List ℕ → (was told c_was c_told h_was h_told : ℕ) → Type 0
TellsForm (Ok file) code old new was told c_was c_told h_was h_told = TellsFlat (Ok file) code old new was told c_was c_told h_was h_told
TellsForm (Err NoForm) code old new was told c_was c_told h_was h_told = TellsNone 4 code old new was told c_was c_told h_was h_told
TellsForm (Err (Flat fault)) code old new was told c_was c_told h_was h_told = TellsFlat (Err fault) code old new was told c_was c_told h_was h_told

-- the flat file of a medium in this form, if it has one, and what is reported of it: code 0, or 10 if the buffer is too
-- short
abbrev pub WritesForm : FlatForm → Disk → ℕ → List ℕ → List ℕ → (was told c_was c_told h_was h_told : ℕ) → Type 0
WritesForm form disk code old new was told c_was c_told h_was h_told =
    (answer : Result (Vec ℕ) FileFault) × GivesForm form disk answer × TellsForm answer code old new was told c_was c_told h_was h_told

-- the flat file of the medium in a tray, in a form. If there is no medium, the code is 7, and if there is no form, it
-- is 4
abbrev pub WritesFormOf : Option FlatForm → Option Disk → ℕ → List ℕ → List ℕ → (was told c_was c_told h_was h_told : ℕ) → Type 0
WritesFormOf form None code old new was told c_was c_told h_was h_told = TellsNone 7 code old new was told c_was c_told h_was h_told
WritesFormOf None (Some disk) code old new was told c_was c_told h_was h_told = TellsNone 4 code old new was told c_was c_told h_was h_told
WritesFormOf (Some form) (Some disk) code old new was told c_was c_told h_was h_told = WritesForm form disk code old new was told c_was c_told h_was h_told

-- the flat file of the medium in a tray, in the form that numbers name
abbrev pub WritesNamed : (cylinders heads sectors n kilobits : ℕ) → Option Disk → ℕ → List ℕ → List ℕ → (was told c_was c_told h_was h_told : ℕ) → Type 0
WritesNamed cylinders heads sectors n kilobits medium code old new was told c_was c_told h_was h_told =
    WritesFormOf (form_named cylinders heads sectors n kilobits) medium code old new was told c_was c_told h_was h_told
