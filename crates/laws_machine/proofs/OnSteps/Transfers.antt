-- What is done in no device step, at the controller.
use Rattle.std.proofs.Common.{◌≡◌, ℕ, ◌==◌, Bool, true, false, refl, sym, ◌∙◌, ap, subst, [], ◌∷◌, ◌++◌, if◌then◌else◌, zero, suc}
use Rattle.laws_machine.proofs.Common.{given, Fdc, Lines, Board, controller_of, lines_of, WritesPort, is_controllers, port_read, Acts, PortWrites as Writes, DataRate, Dor, TakesAs, answer, kept, dsr_resets, is_taking, rate_chosen, reset, is_due, Step, can_move, looked_at, shown_again, Chips, Transferred, Moving, grants}
use Rattle.laws_machine.proofs.Facts.{number_is}
use Rattle.pc_bus.specs.Transfers.{moved, moved_up_to, granted, dma_stepped}

-- nothing, a read of the data port, or a write
pub data Touches (old : Fdc) : Fdc → Type 0 where
  Leaves : (new : Fdc) → new ≡ old → Touches old new
  Gives : (new : Fdc) → new ≡ given old → Touches old new
  Takes : (port value : ℕ) (lines : Lines) (new : Fdc) → Writes port value lines old new → Touches old new

at_read : (port : ℕ) (old : Board) → (controllers data_port : Bool) → is_controllers port ≡ controllers → (port == 0x3F5) ≡ data_port
    → Touches (controller_of old) (port_read port old.bus.chips).controller
at_read port old true true one two = Touches.Gives (port_read port old.bus.chips).controller (rw (one, two) refl)
at_read port old true false one two = Touches.Leaves (port_read port old.bus.chips).controller (rw (one, two) refl)
at_read port old false data_port one two = Touches.Leaves (port_read port old.bus.chips).controller (rw one refl)

at_write : (port value : ℕ) (old new : Board) → (writes : WritesPort port value old new) → (controllers : Bool) → is_controllers port ≡ controllers → Touches (controller_of old) (controller_of new)
at_write port value old new writes true is =
    let (controller, does, chips) = writes.writes.controllers is in
    Touches.Takes port value (lines_of old) (controller_of new) (subst (Writes port value (lines_of old) (controller_of old)) (sym (ap (λ bus. bus.chips.controller) writes.bus ∙ ap (λ c. c.controller) chips)) does)
at_write port value old new writes false is = Touches.Leaves (controller_of new) (ap (λ bus. bus.chips.controller) writes.bus ∙ ap (λ c. c.controller) (writes.writes.channels is))

pub at_controller : (old new : Board) → Acts old new → Touches (controller_of old) (controller_of new)
at_controller old new (Acts.Idles gaps fresh) = Touches.Leaves (controller_of old) refl
at_controller old new (Acts.Reads port) = at_read port old (is_controllers port) (port == 0x3F5) refl refl
at_controller old new (Acts.Writes port value last writes) = at_write port value old last writes (is_controllers port) refl
at_controller old new Acts.Takes = Touches.Leaves (controller_of old) refl
at_controller old new (Acts.Sets address value) = Touches.Leaves (controller_of old) refl
at_controller old new (Acts.Handles bay last touches) = Touches.Leaves (controller_of last) (ap (λ bus. bus.chips.controller) touches.bus)

-- ---- a write, by its port

-- what holds if DOR and the rate are set, with a reset or without one, and if a byte of a command is taken
pub by_write : (P : Fdc → Type 0) (port value : ℕ) (lines : Lines) (old new : Fdc) → Writes port value lines old new
    → ((resets : Bool) (dor : Dor) (rate : DataRate) → P (if resets then reset (record old { dor = dor; rate = rate }) else record old { dor = dor; rate = rate }))
    → (TakesAs (answer (old.command ++ value ∷ [])) lines (record old { command = kept (answer (old.command ++ value ∷ [])) (old.command ++ value ∷ []) }) new → P new) → P new
by_write P port value lines old new writes set takes = by_port (port == 0x3F2) (port == 0x3F4) (port == 0x3F5) (port == 0x3F7) refl refl refl refl
  where
    same : new ≡ old → P new
    same is = subst P (sym is) (set false old.dor old.rate)

    by_taking : port ≡ 0x3F5 → (b : Bool) → is_taking old ≡ b → P new
    by_taking is true taking = takes ((writes.bytes is).0 taking)
    by_taking is false taking = same ((writes.bytes is).1 taking)

    by_port : (a b c d : Bool) → (port == 0x3F2) ≡ a → (port == 0x3F4) ≡ b → (port == 0x3F5) ≡ c → (port == 0x3F7) ≡ d → P new
    by_port true b c d p q r s = subst P (sym (writes.output (number_is port 0x3F2 p))) (set _ (record { 0 = value }) old.rate)
    by_port false true c d p q r s = subst P (sym (writes.select (number_is port 0x3F4 q))) (set (dsr_resets value) old.dor (rate_chosen value))
    by_port false false true d p q r s = by_taking (number_is port 0x3F5 r) (is_taking old) refl
    by_port false false false true p q r s = subst P (sym (writes.control (number_is port 0x3F7 s))) (set false old.dor (rate_chosen value))
    by_port false false false false p q r s = same (writes.others p q r s)

-- ---- what transfers keep

up_to_if : (P : Chips → Type 0) (n : ℕ) (chips : Chips) → P chips → (can : Bool) → (can ≡ true → P (moved_up_to n (moved chips))) → P (if can then moved_up_to n (moved chips) else chips)
up_to_if P n chips was true on = on refl
up_to_if P n chips was false on = was

pub up_to_moves : (P : Chips → Type 0) → ((chips : Chips) → can_move chips ≡ true → P chips → P (moved chips)) → (n : ℕ) (chips : Chips) → P chips
    → P (moved_up_to n chips)
unfolding moved_up_to
up_to_moves P one zero chips was = was
up_to_moves P one (suc n) chips was = up_to_if P n chips was (can_move chips) (λ can. up_to_moves P one n (moved chips) (one chips can was))

pub up_to : (P : Chips → Type 0) → ((chips : Chips) → P chips → P (moved chips)) → (n : ℕ) (chips : Chips) → P chips → P (moved_up_to n chips)
up_to P one = up_to_moves P (λ chips can. one chips)

-- the transfers of a device step, by how the request of the step is dealt with: it isn't due, the channel doesn't
-- grant, or bytes are moved
pub by_request : (P : Chips → Type 0) → (chips : Chips) → (is_due (looked_at chips).holding.request ≡ false → P (looked_at chips))
    → (grants chips.channel ≡ false → P (looked_at chips))
    → (grants chips.channel ≡ true → P (shown_again (moved_up_to 16 (looked_at chips)))) → P (dma_stepped chips)
unfolding dma_stepped granted
by_request P chips idle masked moves = by_due (is_due (looked_at chips).holding.request) (grants chips.channel) refl refl
  where
    by_due : (due granting : Bool) → is_due (looked_at chips).holding.request ≡ due → grants chips.channel ≡ granting
        → P (if due then (if granting then shown_again (moved_up_to 16 (looked_at chips)) else looked_at chips) else looked_at chips)
    by_due true true due grant = moves grant
    by_due true false due grant = masked grant
    by_due false granting due grant = idle due

pub served_moves : (P : Chips → Type 0) → Moving P → (chips : Chips) → P chips → P (dma_stepped chips)
served_moves P keeps chips was =
    let look = keeps.held chips (looked_at chips).holding was in
    by_request P chips (λ _. look) (λ _. look)
    (λ _. keeps.held (moved_up_to 16 (looked_at chips)) (shown_again (moved_up_to 16 (looked_at chips))).holding
    (up_to_moves P keeps.one 16 (looked_at chips) look))

pub served : (P : Chips → Type 0) → Transferred P → (chips : Chips) → P chips → P (dma_stepped chips)
served P keeps = served_moves P (record { one = λ chips can. keeps.one chips; held = keeps.held })

-- the chips at the end of a device step, from those after its word time
pub after_moves : (P : Chips → Type 0) → Moving P → (old new : Board) → (step : Step old new) → P (record old.bus.chips { controller = step.between }) → P new.bus.chips
after_moves P keeps old new step was = subst P (sym (ap (λ bus. bus.chips) step.bus)) (served_moves P keeps (record old.bus.chips { controller = step.between }) was)

pub after_step : (P : Chips → Type 0) → Transferred P → (old new : Board) → (step : Step old new) → P (record old.bus.chips { controller = step.between }) → P new.bus.chips
after_step P keeps = after_moves P (record { one = λ chips can. keeps.one chips; held = keeps.held })
