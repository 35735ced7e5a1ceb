-- A bay has a name as long as it has a medium.
use Rattle.std.proofs.Common.{◌≡◌, ℕ, Option, is_some, sym, ap, ◌∙◌, inl, inr}
use Rattle.raw_image.specs.Disk.{Disk}
use Rattle.text_commands.proofs.Common.{Steady, inputs, outputs, wait, step_guards, Board, WritesPort, Inputs, Outputs, stirred, Names, AreNamed, SameMedia}
use Rattle.laws_machine.specs.OnWrites.Guards.{IsGuarded}
use Rattle.pc_bus.specs.Steps.{Runs}
use Rattle.fdc_core.proofs.drives.Passing.{write_leaves}

-- a write of a port leaves the media
pub write_same : (port value : ℕ) (old between : Board) → WritesPort port value old between → SameMedia old between
write_same port value old between writes = record { first = (write_leaves writes.lines.first).0; second = (write_leaves writes.lines.second).0 }

guarded_loaded : (before after : Option Disk) → IsGuarded before after → is_some after ≡ is_some before
guarded_loaded before after (inl same) = ap (λ (o : Option Disk). is_some o) same
guarded_loaded before after (inr one) = ap (λ (o : Option Disk). is_some o) one.is ∙ sym (ap (λ (o : Option Disk). is_some o) one.was)

-- no device step puts a medium in or takes one out
stay_named : (names : Names) → Steady (AreNamed names)
stay_named names = record {
  step = λ old new step named. (let guards = step_guards old new step in record {
    first = named.first ∙ sym (guarded_loaded old.first.medium new.first.medium guards.first);
    second = named.second ∙ sym (guarded_loaded old.second.medium new.second.medium guards.second);
  });
  idle = λ old gaps fresh named. record { first = named.first; second = named.second };
}

-- ---- each call

pub named_read : (names : Names) (port value : ℕ) (old new : Board) → Inputs port old value new → AreNamed names old → AreNamed names new
named_read names port value old new access named = inputs (AreNamed names) (stay_named names) port value old new (record { first = named.first; second = named.second }) access

pub named_write : (names : Names) (port value : ℕ) (old new : Board) → Outputs port value old new → AreNamed names old → AreNamed names new
named_write names port value old new access named = outputs (AreNamed names) (stay_named names) port value old new written access
  where
    written : (between : Board) → WritesPort port value old between → AreNamed names between
    written between writes = let same = write_same port value old between writes in record {
      first = named.first ∙ sym (ap (λ (o : Option Disk). is_some o) same.first);
      second = named.second ∙ sym (ap (λ (o : Option Disk). is_some o) same.second);
    }

pub named_wait : (names : Names) (n : ℕ) (old new : Board) → Runs n (stirred old) new → AreNamed names old → AreNamed names new
named_wait names n old new runs named = wait (AreNamed names) (stay_named names) n old new runs named
