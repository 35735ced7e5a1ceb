-- Motors that go on.
use Rattle.std.specs.Prelude.{◌==◌, ◌||◌, ℕ}
use Rattle.machine_commands.specs.declared.motors.Motors.{Motors}

-- the motors that are on, with that of a bay added
abbrev pub with_motor_of : ℕ → Motors → Motors
with_motor_of bay motors = record { first = motors.first || bay == 0; second = motors.second || bay == 1 }
