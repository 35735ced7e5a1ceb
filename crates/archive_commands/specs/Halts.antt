-- What halts a command, by the error that the crate below gave.
use Rattle.imagedisk.specs.declared.error.ImdError.{ImdError}
use Rattle.imagedisk.specs.declared.error.ImdError.TheVariants as imd
use Rattle.remaster.specs.declared.error.RemasterError.{RemasterError}
use Rattle.remaster.specs.declared.error.RemasterError.TheVariants as remaster
use Rattle.sector_model.specs.declared.reply.Stop.TheVariants as stop
use Rattle.archive_commands.specs.declared.halt.Halt.{Halt}
use Rattle.archive_commands.specs.declared.halt.Halt.TheVariants as halt

abbrev pub out_of_memory : Halt
out_of_memory = halt.Stopped stop.NoMemory

abbrev pub of_imd : ImdError → Halt
of_imd (imd.Unfit c h) = halt.Unfit c h
of_imd imd.NoMemory = out_of_memory

abbrev pub of_remaster : RemasterError → Halt
of_remaster (remaster.Unfit c h) = halt.Unfit c h
of_remaster remaster.NoMemory = out_of_memory
