-- Bytes of commands, while the controller rests.
use Rattle.std.proofs.Common.{◌≡◌, ℕ, not, true, false, List, [], ◌∷◌, ◌++◌, refl, sym, ◌∙◌, ap, subst, append_assoc}
use Rattle.machine_commands.proofs.Common.{DriveState, kept, More, Ready, TakesAs, Obeys, Writes, takes_in, is_taking, is_held, dor_of, Fdc, Lines, Board, controller_of, lines_of, lines_of_drive, Outputs, Sends, append-nil, answer}
use Rattle.fdc_commands.specs.declared.command.Command.{Command}
use Rattle.machine_commands.proofs.Idling.{IsResting, KeepsDrive, KeepsAll, Idles}
use Rattle.machine_commands.proofs.Steps.{idles_then, idles_none, idles_as}
use Rattle.machine_commands.proofs.Accesses.{Quiets, output_idles}
use Rattle.fdc_phases.specs.declared.phases.Phase.TheVariants as phase

-- the controller rests, and takes bytes
pub record IsListening (fdc : Fdc) : Type 0 where
  pub rests : IsResting fdc
  pub phase_is : fdc.phase ≡ phase.Command
  pub not_held : is_held fdc ≡ false

taking : (fdc : Fdc) → IsListening fdc → is_taking fdc ≡ true
taking fdc listens = ap (λ q. takes_in q (is_held fdc)) listens.phase_is ∙ ap not listens.not_held

-- the controller with these bytes of a command
abbrev pub with_bytes : List ℕ → Fdc → Fdc
with_bytes bytes fdc = record fdc { command = bytes }

rests_with : (bytes : List ℕ) (fdc : Fdc) → IsResting fdc → IsResting (with_bytes bytes fdc)
rests_with bytes fdc rests =
    record { no_command = rests.no_command; no_seek = rests.no_seek; not_asking = rests.not_asking; no_poll = rests.no_poll }

pub listens_with : (bytes : List ℕ) (fdc : Fdc) → IsListening fdc → IsListening (with_bytes bytes fdc)
listens_with bytes fdc listens =
    record { rests = rests_with bytes fdc listens.rests; phase_is = listens.phase_is; not_held = listens.not_held }

-- a byte comes after which more are to come
pub byte_more : (byte : ℕ) (bytes : List ℕ) (old new : Board) → IsListening (controller_of old) → (controller_of old).command ++ byte ∷ [] ≡ bytes → answer bytes ≡ More
    → Outputs 0x3F5 byte old new → Idles (with_bytes bytes (controller_of old)) old new
byte_more byte bytes old new listens whole more access =
    let fdc = controller_of old in
    output_idles 0x3F5 byte old new access refl refl (with_bytes bytes fdc) only (λ low. low) (rests_with bytes fdc listens.rests)
  where
    only : (controller : Fdc) → Writes 0x3F5 byte (lines_of old) (controller_of old) controller → controller ≡ with_bytes bytes (controller_of old)
    only controller writes =
        let takes = (writes.bytes refl).0 (taking (controller_of old) listens) in
        let at : TakesAs (answer bytes) (lines_of old) (record (controller_of old) { command = kept (answer bytes) bytes }) controller =
        subst (λ b. TakesAs (answer b) (lines_of old) (record (controller_of old) { command = kept (answer b) b }) controller) whole takes in
        subst (λ a. TakesAs a (lines_of old) (record (controller_of old) { command = kept a bytes }) controller) more at

-- more bytes are to come after each of these
abbrev pub AreMore : List ℕ → List ℕ → Type 0
AreMore done [] = Unit {0}
AreMore done (byte ∷ rest) = (answer (done ++ byte ∷ []) ≡ More) × AreMore (done ++ byte ∷ []) rest

pub first_bytes : (done rest : List ℕ) (old new : Board) → (controller_of old).command ≡ done → IsListening (controller_of old) → AreMore done rest
    → Sends rest old new → Idles (with_bytes (done ++ rest) (controller_of old)) old new
first_bytes done [] old new begun listens more same =
    let all : (controller_of old).command ≡ done ++ [] = begun ∙ sym (append-nil done) in
    subst (λ board. Idles (with_bytes (done ++ []) (controller_of old)) old board) (sym same)
    (idles_as old old (controller_of old) (with_bytes (done ++ []) (controller_of old)) (ap (λ bytes. with_bytes bytes (controller_of old)) all) (idles_none old))
first_bytes done (byte ∷ rest) old new begun listens (more, others) (between, access, sends) =
    let fdc = controller_of old in
    let next = done ++ byte ∷ [] in
    let one = byte_more byte next old between listens (ap (λ bytes. bytes ++ byte ∷ []) begun) more access in
    let here = subst IsListening (sym one.controller_is) (listens_with next fdc listens) in
    let two = first_bytes next rest between new (ap (λ c. c.command) one.controller_is) here others sends in
    let same : with_bytes (next ++ rest) (controller_of between) ≡ with_bytes (done ++ byte ∷ rest) fdc =
    ap (λ c. with_bytes (next ++ rest) c) one.controller_is ∙ ap (λ bytes. with_bytes bytes fdc) (append_assoc done (byte ∷ []) rest) in
    idles_as old new (with_bytes (next ++ rest) (controller_of between)) (with_bytes (done ++ byte ∷ rest) fdc) same
    (idles_then one two)

-- what a controller becomes that was given the last byte
pub last_written : (byte : ℕ) (command : Command) (fdc controller : Fdc) (lines : Lines) → IsListening fdc → answer (fdc.command ++ byte ∷ []) ≡ Ready command
    → Writes 0x3F5 byte lines fdc controller → Obeys command lines (with_bytes [] fdc) controller
last_written byte command fdc controller lines listens whole writes =
    let takes = (writes.bytes refl).0 (taking fdc listens) in
    let bytes = fdc.command ++ byte ∷ [] in
    subst (λ a. TakesAs a lines (record fdc { command = kept a bytes }) controller) whole takes

-- the last byte comes, and the command is obeyed
pub byte_last : (byte : ℕ) (command : Command) (old new : Board) → IsListening (controller_of old) → answer ((controller_of old).command ++ byte ∷ []) ≡ Ready command
    → (fdc : Fdc) → ((controller : Fdc) → Obeys command (lines_of old) (with_bytes [] (controller_of old)) controller → controller ≡ fdc)
    → Quiets (controller_of old) fdc → IsResting fdc → Outputs 0x3F5 byte old new → Idles fdc old new
byte_last byte command old new listens whole fdc obeys quiet rest access =
    output_idles 0x3F5 byte old new access refl refl fdc
    (λ controller writes. obeys controller (last_written byte command (controller_of old) controller (lines_of old) listens whole writes)) quiet rest

-- ---- a whole command

-- the bytes sent in two parts
pub sends_parts : (first rest : List ℕ) (old new : Board) → Sends (first ++ rest) old new → (between : Board) × Sends first old between × Sends rest between new
sends_parts [] rest old new sends = (old, refl, sends)
sends_parts (byte ∷ first) rest old new (next, access, sends) =
    let (between, one, two) = sends_parts first rest next new sends in (between, (next, access, one), two)

pub lines_kept : (old new : DriveState) → KeepsDrive old new → lines_of_drive new ≡ lines_of_drive old
lines_kept old new keeps = rw (keeps.cylinder, keeps.medium, keeps.change) refl

-- the selected drive has the same lines
pub same_lines : (old new : Board) → KeepsAll old new → dor_of (controller_of new) ≡ dor_of (controller_of old) → lines_of new ≡ lines_of old
same_lines old new keeps dor =
    let first = keeps.first in
    let second = keeps.second in
    rw (dor, first.cylinder, first.medium, first.change, second.cylinder, second.medium, second.change) refl

-- a command whose bytes are sent is obeyed by a controller that listens
pub whole_command : (first : List ℕ) (byte : ℕ) (command : Command) (old new : Board) → IsListening (controller_of old) → (controller_of old).command ≡ []
    → AreMore [] first → answer (first ++ byte ∷ []) ≡ Ready command → (fdc : Fdc)
    → ((controller : Fdc) → Obeys command (lines_of old) (with_bytes [] (controller_of old)) controller → controller ≡ fdc)
    → Quiets (controller_of old) fdc → IsResting fdc → Sends (first ++ byte ∷ []) old new → Idles fdc old new
whole_command first byte command old new listens none more whole fdc obeys quiet rest sends =
    let c = controller_of old in
    let (between, one, (last, access, same)) = sends_parts first (byte ∷ []) old new sends in
    let before = first_bytes [] first old between none listens more one in
    let here = subst IsListening (sym before.controller_is) (listens_with first c listens) in
    let lines = same_lines old between before.stays.keeps (ap dor_of before.controller_is) in
    let bare : with_bytes [] (controller_of between) ≡ with_bytes [] c = ap (λ f. with_bytes [] f) before.controller_is in
    let obeyed : (controller : Fdc) → Obeys command (lines_of between) (with_bytes [] (controller_of between)) controller → controller ≡ fdc =
    λ controller does. obeys controller (subst (λ l. Obeys command l (with_bytes [] c) controller) lines
    (subst (λ f. Obeys command (lines_of between) f controller) bare does)) in
    let at : answer ((controller_of between).command ++ byte ∷ []) ≡ Ready command = ap (λ f. answer (f.command ++ byte ∷ [])) before.controller_is ∙ whole in
    let quiets : Quiets (controller_of between) fdc = λ low. quiet (sym (ap (λ f. f.interrupt) before.controller_is) ∙ low) in
    let after = byte_last byte command between last here at fdc obeyed quiets rest access in
    subst (λ board. Idles fdc old board) (sym same) (idles_then before after)

-- such a command, where the controller that listens is named
pub whole_at : (first : List ℕ) (byte : ℕ) (command : Command) (old new : Board) (fdc : Fdc) → controller_of old ≡ fdc → IsListening fdc → fdc.command ≡ []
    → AreMore [] first → answer (first ++ byte ∷ []) ≡ Ready command → (target : Fdc)
    → ((lines : Lines) (controller : Fdc) → Obeys command lines (with_bytes [] fdc) controller → controller ≡ target)
    → Quiets fdc target → IsResting target → Sends (first ++ byte ∷ []) old new → Idles target old new
whole_at first byte command old new fdc at listens none more whole target obeys quiet rest sends =
    whole_command first byte command old new (subst IsListening (sym at) listens) (ap (λ f. f.command) at ∙ none) more whole target
    (λ controller does. obeys (lines_of old) controller (subst (λ f. Obeys command (lines_of old) f controller) (ap (λ f. with_bytes [] f) at) does))
    (λ low. quiet (sym (ap (λ f. f.interrupt) at) ∙ low)) rest sends
