-- Files, printed text, requests, and the runs of the program.
pub use Rattle.flop_base.specs.Shelf
pub use Rattle.flop_base.specs.Sink
pub use Rattle.floppy_jobs.specs.Requests
pub use Rattle.sector_model.specs.Steps
pub use Rattle.sector_model.specs.Plays
pub use Rattle.floppy_tools.specs.Plans
pub use Rattle.floppy_tools.specs.Runs
pub use Rattle.memory_files.specs.Shelves
