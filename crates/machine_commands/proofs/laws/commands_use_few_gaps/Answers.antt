use Rattle.machine_commands.proofs.Lasting as lasting
use Rattle.machine_commands.proofs.laws.commands_use_few_gaps.Goals as goal

pub returns-clause-resets : goal.returns-clause-resets
returns-clause-resets c old new resets = (lasting.resets_cost old new resets).uses

pub returns-clause-asks_line : goal.returns-clause-asks_line
returns-clause-asks_line c motors bay changed old new reads = (lasting.line_costs motors bay changed old new reads).uses

pub returns-clause-asks_drive : goal.returns-clause-asks_drive
returns-clause-asks_drive c motors bay status old new senses = (lasting.drive_costs motors bay status old new senses).uses

pub returns-clause-motor : goal.returns-clause-motor
returns-clause-motor c motors bay old new starts = (lasting.motor_costs motors bay old new starts).uses

pub returns-clause-recalibrates : goal.returns-clause-recalibrates
returns-clause-recalibrates c motors bay status old new sends = (lasting.recalibrate_costs motors bay status old new sends).uses

pub returns-clause-seeks : goal.returns-clause-seeks
returns-clause-seeks c motors bay target old new sends = (lasting.seek_costs motors bay target old new sends).uses

pub returns-clause-prepares : goal.returns-clause-prepares
returns-clause-prepares c motors bay rate old new prepares = (lasting.prepares_cost motors bay rate old new prepares).uses

pub returns-clause-sends : goal.returns-clause-sends
returns-clause-sends c bytes old new sends = (lasting.sends_cost bytes old new sends).uses

pub returns-clause-channel : goal.returns-clause-channel
returns-clause-channel c mode address last old new sets = (lasting.channel_costs mode address last old new sets).uses

pub returns-clause-finishes : goal.returns-clause-finishes
returns-clause-finishes c order scene start free short outcome sent new goes finishes = (lasting.finishes_cost order scene start free short outcome sent new goes finishes).uses
