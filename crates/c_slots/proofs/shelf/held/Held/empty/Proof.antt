-- Written by tools/slots. Change proofs/controller/held/Held/empty/Proof.antt, of which this is a copy.
-- `empty` owns nothing beside the handle.
use Rattle.c_slots.proofs.Common.{None, Ura, w64, Val, vint, vstruct, vcons, vnil, SProp, ent, emp, ftrue, fsep, Memory, Routine, WpFn, Tables, Logic, Fun, tables, WpFn-mono, Item, raw, qed, by, move, keep, drop, join, split, fsplit, fjoin, fpack, feq_i, suffices, done, agg, lit, no_more, and_then, returns, enter, alloc_all, pass_all, free_all, look_at, get, sets, yes, RattleType, Valss, null_ptr, plain, nothing, within, shape, to, triple_of, entered, says, Stays, stay_dropped, walk_of, ends_at, Goes-dropped, walk_Meets, α, handle_tells, and_tt}
use mathlib.Core.Path.{refl, sym, subst}
use mathlib.Core.List.{List, [], ◌∷◌, ◌++◌}
use lib.Dec.{lit<}
use types.Kit.{‵, ◌⊛◌, ◌$◌, ◌∵◌, ! }
use Rattle.std.specs.contracts.alloc.Global as Heap
use contract.Running.{tables_of}
use Rattle.c_slots.proofs.Rows.{shelf_box as E}
use Rattle.c_slots.specs.contracts.shelf.held.Held as held
use Rattle.c_slots.specs.contracts.shelf.held.Held.empty as F
use Rattle.c_slots.specs.contracts.shelf.held.Held.empty.Key.{name as #self}
use Rattle.c_slots.proofs.shelf.held.Held.empty.Statement as stated
use Rattle.c_slots.proofs.shelf.held.Held.empty.Code as code

abbrev stayed : Stays (F.ended).signature.params (F.ended).kept
stayed = (stay_dropped (plain (λ _. Heap.the_row)) yes, tt)

module _ {M : Type 1} {𝓤 : Ura M} (𝓛 : Logic 𝓤) (at_mem : Memory → SProp 𝓤) (run : Routine → Fun 𝓤) (𝓣 : Tables 𝓤 𝓛.H) where
  open 𝓛 use {H}

  walk : (z : (walk_of 𝓛 F.ended stayed (F.clauses 𝓛 at_mem run)).Ghost)
      → ent 𝓤 ((walk_of 𝓛 F.ended stayed (F.clauses 𝓛 at_mem run)).pre z) (WpFn 𝓤 H 𝓣.C 𝓣.Λ code.function (z.0.4.0 ++ []) ((walk_of 𝓛 F.ended stayed (F.clauses 𝓛 at_mem run)).post z))
  walk z =
      let Post = (walk_of 𝓛 F.ended stayed (F.clauses 𝓛 at_mem run)).post z in
      let a = z.0.3.0 in let Hr : RattleType = held.the_row in
      let made : Hr.Denot = record { at = null_ptr; alloc = a; shelf = None } in
      qed 𝓛 ((‵ ftrue ⊛ ‵ (fsep (Heap.the_row.own_val a z.0.4.0) ftrue)) ∷ raw (emp 𝓤) ∷ []) ∵ split ! $ drop ! $ fsplit ! $
      handle_tells E.al ! a z.0.4.0 (λ hv is fa.
      let w : Val = vstruct (vcons (vint w64 0) (vcons hv vnil)) in
      let Γ : List (Item 𝓤) = ‵ (Heap.the_row.own_val a (hv ∷ [])) ∷ [] in
      keep ! (0 ∷ []) $ by ! (subst (λ (us : List Val). ent 𝓤 (types.Kit.⋆ 𝓛 Γ) (WpFn 𝓤 H 𝓣.C 𝓣.Λ code.function (us ++ []) Post)) (sym is)
      (qed 𝓛 Γ ∵ enter ! 𝓣.C 𝓣.Λ code.function (hv ∷ []) _ $ alloc_all ! (λ ls. pass_all ! refl (fa, tt) $
      sets ! (agg ! (and_then ! (lit ! tt) (and_then ! (get ! refl) (no_more !)))) refl (and_tt (mir.Val.has_ty (α E.al) hv) fa.0, (record { fits = lit< tt }, (fa.1, tt))) $
      returns ! (look_at ! 0 refl) $ free_all ! refl $
      nothing ! $ nothing ! $ move ! (2 ∷ 1 ∷ []) $ fjoin ! $ feq_i ! (List Val) (vint w64 0 ∷ []) (vint w64 0 ∷ []) refl $ fjoin ! $ feq_i ! (List Val) (w ∷ []) (w ∷ []) refl $ fjoin ! $
      fpack ! (Valss (shape held.the_type).fields) (within (shape held.the_type) (to held.the_type made) (w ∷ [])) (vint w64 0 ∷ [], (hv ∷ [], tt)) $ fjoin ! $
      suffices ! _ (ends_at 𝓛 F.ended stayed (F.clauses 𝓛 at_mem run) z w made (tt, tt) (tt, tt)) $ says ! refl $
      nothing ! $ nothing ! $ fjoin ! $ join ! $ nothing ! $ join ! $ done !))))

pub empty_spec : {M : Type 1} → stated.statement M
unfolding tables_of
empty_spec 𝓤 𝓛 𝓜 𝓡 wired =
    let 𝓣 : Tables 𝓤 𝓛.H = tables_of 𝓤 𝓛.H 𝓜 (tables 𝓤 𝓛.H 𝓜 𝓡 𝓡.env) in
    entered 𝓤 𝓛.H (triple_of 𝓛 F.signature (F.spec 𝓛 𝓜.mem 𝓡.returns)) 𝓣.C 𝓣.Λ #self code.function (code.unfolded 𝓤 𝓛.H 𝓜 𝓡 wired)
    (walk_Meets 𝓛 F.ended stayed (Goes-dropped 𝓛 0 (plain (λ _. Heap.the_row)) yes (λ κs x f. refl), tt) (F.clauses 𝓛 𝓜.mem 𝓡.returns) (WpFn 𝓤 𝓛.H 𝓣.C 𝓣.Λ code.function) (WpFn-mono 𝓤 𝓛.H 𝓛.laws 𝓣 code.function)
    (walk 𝓛 𝓜.mem 𝓡.returns 𝓣))
