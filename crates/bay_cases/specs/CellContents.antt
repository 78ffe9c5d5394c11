-- Document 02, T-02, "A cell may hold a handle": each of its sentences, of the definitions that the contracts and the demands cite.
use Rattle.std.specs.Prelude.{◌≡◌, refl, Bool, ◌&&◌, true, ◌↔◌, List, [], ◌∷◌, map, ℕ, suc, zero, ltb, length}
use Rattle.std.proofs.Math.Option.{some}
use Rattle.std.proofs.Common.{arith}
use Rattle.std.proofs.lemmas.List.{length-replicate}
use Rattle.calculus.specs.Profile.{Profile, common}
use Rattle.calculus.specs.Limits.{byte_values}
use Rattle.calculus.specs.Bytes.{Bytes, two_bytes}
use Rattle.calculus.specs.Causes.{annotation_cause}
use Rattle.calculus.specs.Types.{once, LinType, multiplicity}
use Rattle.calculus.specs.Syntax.{Op, op, Exp, const, holds, at}
use Rattle.calculus.specs.Typing.{TypeNumbers}
use Rattle.calculus.specs.Names.{HasType}
use Rattle.calculus.specs.Table.{Table, TableRule, type_at}
use Rattle.calculus.specs.Verdict.{annotated, verdict}
use Rattle.calculus.proofs.Theory.Tests.{and_parts, ltb_sound}
use Rattle.calculus.proofs.Theory.Constants.{Instance}
use Rattle.calculus.proofs.Theory.Verdict.{EachDerived, verdict_derived_iff}
use Rattle.calculus.proofs.Theory.Causes.{Some, Cause7, Cause8, instance_iff, verdict_means}
use Rattle.recipe_table.specs.Entries.{type_table}
use Rattle.recipe_file.specs.Whole.{file_of, joined, pairs_of}
use Rattle.image.specs.Configuration.{config_of}
use Rattle.runs.specs.Run.{Step, left, types_left, image_loaded, types_loaded}
use Rattle.demands.specs.Demands.{RunDemand, ThirdDemand}
use Rattle.demands.proofs.Theory.Third.{accepted_demand, third_demand}
use Rattle.bay_cases.specs.Cases.{out, call, run_of, kept_handle, cases}

-- what the third demand says of what step n leaves in cell k, where that is usable once
abbrev CoversOnce : TypeNumbers → Step → ℕ → Type 0
CoversOnce τ n k = (v : Exp) × (α : LinType) × (at (config_of (left n)) k ≡ some (holds v)) × (multiplicity α ≡ once) × HasType τ (types_left τ n) v α

record CellContents : Type 0 where
  -- "contents may have either multiplicity, as Fig. 8 has it": of a constant, cause 8 asks that Fig. 8 has its type, and no more
  as_fig_8 : {T : Table} → TableRule T → (o : Op) (t : ℕ) → (annotated T (const (op o t)) ≡ true) ↔ Instance (type_at T) o t
  -- "From then on acceptance is the second demand's without the narrowing": each term has a derivation under a many type, and no more
  acceptance : {T : Table} → TableRule T → (es : List Exp) → (verdict T es ≡ 0) ↔ EachDerived T es
  -- "and the guarantee about running": of every run of every accepted recipe
  guarantee : (p : Profile) → ThirdDemand p
  -- "covers cells that hold something usable once": in a run among these, the cell 4 that the fourth step leaves
  covers : (n : Step) × (at (run_of kept_handle) 3 ≡ some n) × CoversOnce (type_at (type_table kept_handle.file)) n 4
  -- "Refusal 8 loses that cause": what is left is a lambda whose type is no function, or a constant whose type Fig. 8 does not have
  refusal_8 : {T : Table} → TableRule T → (es : List Exp) →
      (verdict T es ≡ annotation_cause) ↔ ((¬ Some (Cause7 T (length es)) es) × Some (Cause8 (type_at T)) es)

-- kept-handle's file is bytes
unfoldable are_bytes : List ℕ → Bool
are_bytes [] = true
are_bytes (x ∷ l) = ltb x byte_values && are_bytes l

are_bytes_sound : (l : List ℕ) → are_bytes l ≡ true → Bytes l
unfolding are_bytes
are_bytes_sound [] e i = omega arith
are_bytes_sound (x ∷ l) e zero = ltb_sound x byte_values (and_parts (ltb x byte_values) (are_bytes l) e).0
are_bytes_sound (x ∷ l) e (suc i) = are_bytes_sound l (and_parts (ltb x byte_values) (are_bytes l) e).1 i

kept_bytes : Bytes kept_handle.file
unfolding are_bytes file_of pairs_of joined two_bytes
kept_bytes = are_bytes_sound kept_handle.file refl

-- so the third demand speaks of its run
kept_run : RunDemand common (type_at (type_table kept_handle.file)) (image_loaded common kept_handle.file out) (types_loaded kept_handle.file) (map call kept_handle.threads)
kept_run = accepted_demand kept_handle.file kept_bytes cases.kept_accepted out (rw length-replicate (omega arith)) (map call kept_handle.threads)

covered : (n : Step) × (at (run_of kept_handle) 3 ≡ some n) × CoversOnce (type_at (type_table kept_handle.file)) n 4
unfolding run_of
covered =
    let (n, p, (v, α, h, t, m)) = cases.holds_once in
    let (β, u, w) = (kept_run.typed_after 3 n p).cells 4 v h in
    let e : β ≡ α = cc in
    (n, p, (v, α, h, m, rw e at w))

cell_contents : CellContents
cell_contents = record {
  as_fig_8 = instance_iff;
  acceptance = verdict_derived_iff;
  guarantee = third_demand;
  covers = covered;
  refusal_8 = λ R es. (verdict_means R es).1;
}
