use Rattle.laws_commands.proofs.Sectors.{formatted_regular, formatted_sector, formatted_only}
use Rattle.laws_commands.proofs.formats.formatted_disk_has_sectors.Goals as goal

pub returns-clause-regular : goal.returns-clause-regular
returns-clause-regular c = formatted_regular c.args._rate c.args._cylinders

pub returns-clause-sectors : goal.returns-clause-sectors
returns-clause-sectors c disk cylinder head sector is = formatted_sector c.args._rate c.args._cylinders disk is cylinder head sector

pub returns-clause-only : goal.returns-clause-only
returns-clause-only c disk entry is = formatted_only c.args._rate c.args._cylinders disk is entry
