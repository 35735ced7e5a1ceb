-- What the lemmas of this crate cite of others, and of its own words.
pub use Rattle.std.proofs.Common.{ap}
pub use Rattle.std.specs.Prelude.{None, Option, Some}
pub use base.Fml.{flft, fsep, ftrue}
pub use base.Logic.{SProp, emp, ent}
pub use contract.Monad.{Fun, fact}
pub use contract.Running.{tables}
pub use denote.Exit.{no, yes}
pub use denote.Param.{bounded, layout, param}
pub use denote.Param.Laws.{param_laws}
pub use denote.RattleType.{RattleType, Valss, owns}
pub use denote.RawPtr.{block_ptr, null_ptr}
pub use denote.Signature.{Slot, plain, type_at, types_at}
pub use denote.Steps.{heard, nothing, only}
pub use denote.Struct.Owning.{shape, to}
pub use denote.Struct.Struct.{within}
pub use denote.Triple.Spec.{triple_of}
pub use denote.Triple.Table.{entered, framed}
pub use denote.Triple.Walked.{Goes-dropped, Stays, ends_at, says, stay_dropped, walk_Meets, walk_of}
pub use mir.MapTy.{inst_fn}
pub use mir.Syntax.{a_type, dcons, dnil, w64}
pub use mir.Val.{Val, vcons, vint, vnil, vptr, vstruct}
pub use prog.Memory.{Memory}
pub use prog.Routine.{Routine}
pub use prog.Wp.{Tables, WpFn}
pub use seplogic.Ra.Ura.{Ura}
pub use sound.WpLaws.{WpFn-mono}
pub use types.ByLocal.{alloc_all, free_all, get, get_in, look_at, pass_all, sets}
pub use types.Kit.{Item, await, by, done, drop, feq_i, fjoin, fpack, fsplit, join, keep, later, move, pick, qed, raw, rewrite, some, split, split3, suffices, use1}
pub use types.Logic.{Logic}
pub use types.Part.{agg, sub, whole}
pub use types.Run.{and_then, enter, fld, lit, no_more, of_opd, returns, stop}
pub use Rattle.std.proofs.BoxSteps.Form.{B, Bx, D, box_typed, word}
pub use Rattle.std.proofs.BoxSteps.Steps.{box_in, box_out}
pub use Rattle.std.proofs.ResultValues.{and_tt}
pub use Rattle.std.proofs.alloc.Calls.{Al, Goes-blank, handle_tells, α}
pub use Rattle.std.proofs.cell.Inside.{Good}
pub use Rattle.std.proofs.raw_atomic.Walks.{leaves, proved_at}
pub use Rattle.std.specs.Box.Ownership.{box_owns}
pub use Rattle.std.specs.contracts.prelude.GlobalAllocator.TheImpl.{dict, ghosts}
pub use Rattle.c_slots.specs.Controllers.{ControllerValue, controller_row}
pub use Rattle.c_slots.specs.Disks.{DeskValue, desk_row}
pub use Rattle.c_slots.specs.Machines.{MachineValue, machine_row}
pub use Rattle.c_slots.specs.Shelves.{ShelfValue, shelf_row}
pub use Rattle.c_slots.specs.Trays.{TrayValue, tray_row}
