-- The theorem that joins bytes to paper: a file is accepted exactly when it says a recipe that document 01 and the paper ask for. The recipe is unique, and so
-- are the types answered.
use Rattle.std.proofs.Common.{◌∙◌}
use Rattle.std.specs.Prelude.{◌≡◌, ◌↔◌, Bool, cond, ◌*◌, ◌+◌, ◌<◌, ◌≤◌, ℕ, ltb, get_or, length, replicate}
use Rattle.std.proofs.Math.Path.{ap, refl, sym}
use Rattle.std.proofs.Math.Bool.{false, not, true}
use Rattle.std.proofs.Math.Option.{some}
use mathlib.Core.List.{List, [], ◌++◌}
use native.Mathlib.Omega.{arith}
use Rattle.std.proofs.lemmas.Bool.{not-false}
use Rattle.std.proofs.Math.Dec.{leb}
use Rattle.calculus.specs.Bytes.{Bytes, word}
use Rattle.calculus.specs.Lists.{tabulate, each_below, sum_below}
use Rattle.calculus.specs.Types.{many, LinType, multiplicity}
use Rattle.calculus.specs.Syntax.{Exp, at}
use Rattle.calculus.specs.Typing.{Derivation}
use Rattle.calculus.specs.Limits.{max_bays, max_nesting, max_recipe_nodes}
use Rattle.calculus.specs.Image.{nodes}
use Rattle.calculus.specs.Table.{Table, TableRule, type_at}
use Rattle.calculus.specs.Lowest.{first_cause}
use Rattle.calculus.specs.Verdict.{type_causes, verdict}
use Rattle.calculus.specs.Recipe.{setting_types, Admitted, Starts}
use Rattle.calculus.proofs.Theory.Tests.{eqb_complete, leb_sound, leb_complete, ltb_complete, ltb_false, ltb_not}
use Rattle.calculus.proofs.Theory.Lists.{at_bound, at_below, at_replicate, get_d_at}
use Rattle.calculus.proofs.Theory.Tabulate.{length_tabulate, replicate_tabulated, tabulate_same, tabulate_at, tabulate_parts, tabulate_is, each_below_sound, each_below_complete, nodes_tabulate}
use Rattle.calculus.proofs.Theory.Lowest.{first_cause_parts, first_cause_rest, none_first, none_fits}
use Rattle.calculus.proofs.Theory.TableTest.{KindsBelow, table_test_iff}
use Rattle.calculus.proofs.Theory.Verdict.{accepted_iff, verdict_iff, verdict_derived_iff}
use Rattle.term.specs.Reader.{one_term, read_term, tree_in}
use Rattle.term.specs.Tree.{forms_below}
use Rattle.term.specs.Expressions.{bytes, nesting, FitsBytes}
use Rattle.term.proofs.Expressions.{edition_complete, edition_sound, term_of_bytes}
use Rattle.recipe_file.specs.File.{edition_of, bays, length_of, part, table_bytes, term_bytes, cause_1, cause_2, cause_3}
use Rattle.recipe_file.specs.Starting.{starting_num_length, starting_part, starting_bytes, starting_num, starting_nums, nums_bytes, cause_19, starting_causes}
use Rattle.recipe_file.specs.FileRule.{FileRule}
use Rattle.recipe_file.proofs.LaidOut.{or_parts, or_false, laid_iff}
use Rattle.recipe_file.proofs.Inside.{length_part, length_table_bytes, starting_is_part}
use Rattle.recipe_file.proofs.Starting.{by_length, length_nums, never_19, nums_read, nums_written, one_each, some_starting, unwritten}
use Rattle.recipe_table.specs.Entries.{table_of, type_table, cause_4, table_causes}
use Rattle.check_spec.specs.Bays.{bay_reading, bay_term, bay_terms, cause_5, cause_6, term_causes}
use Rattle.check_spec.specs.Verdict.{refusal, number_in, bay_type_number, bay_type_numbers}
use Rattle.check_spec.specs.Recipe.{entry_bytes, Recipe}
use Rattle.check_spec.proofs.Theory.Bays.{part_bytes, entry_bytes_of, table_of_entries}

-- no cause fits the file
pub record NoCause (s : List ℕ) : Type 0 where
  pub not_1 : cause_1 s ≡ false
  pub not_2 : cause_2 s ≡ false
  pub not_3 : cause_3 s ≡ false
  pub not_4 : cause_4 s ≡ false
  pub not_5 : cause_5 s ≡ false
  pub not_6 : cause_6 s ≡ false
  pub not_7_to_11 : verdict (type_table s) (bay_terms s) ≡ 0
  pub not_19 : cause_19 s ≡ false

pub no_cause_iff : (s : List ℕ) → (refusal s ≡ 0) ↔ NoCause s
unfolding refusal verdict
no_cause_iff s = (
  λ e.
      let types = type_causes (type_table s) (bay_terms s) in
      let ((a, (b, (c, (d, (f, (g, u)))))), v) = first_cause_parts (table_causes s ++ term_causes s) (types ++ starting_causes s) tt e in
      let (none, w) = first_cause_parts types (starting_causes s) tt v in
      record { not_1 = a; not_2 = b; not_3 = c; not_4 = d; not_5 = f; not_6 = g; not_7_to_11 = none_first types none; not_19 = (none_fits (starting_causes s) tt w).0 },
  λ n.
      let types = type_causes (type_table s) (bay_terms s) in
      let r : first_cause (types ++ starting_causes s) ≡ 0 = first_cause_rest types (starting_causes s) (none_fits types tt n.not_7_to_11) ∙ rw n.not_19 refl in
      rw (n.not_1, n.not_2, n.not_3, n.not_4, n.not_5, n.not_6) r,
)

-- so an accepted file is laid out, and its starting part has its length
pub laid_and_started : (s : List ℕ) → refusal s ≡ 0 → FileRule s × (cause_19 s ≡ false)
laid_and_started s e = let n = (no_cause_iff s).0 e in ((laid_iff s).0 (n.not_1, n.not_2, n.not_3), n.not_19)

-- from the tests to the recipe that the file says
module _ (s : List ℕ) (b : Bytes s) (n : NoCause s) where
  laid_out : FileRule s
  laid_out = (laid_iff s).0 (n.not_1, n.not_2, n.not_3)

  table_stands : KindsBelow (edition_of s).kinds (type_table s) × TableRule (type_table s)
  unfolding cause_4
  table_stands = (table_test_iff (edition_of s).kinds (type_table s)).0 (not-false _ n.not_4)

  says_table : table_bytes s ≡ entry_bytes (type_table s)
  unfolding type_table
  says_table =
      let (t, e, f) = laid_out.entries in
      sym (entry_bytes_of t (table_bytes s) (length_table_bytes laid_out ∙ e))

  bay_is_term : (bay : ℕ) → bay < bays s →
      (term_bytes s bay ≡ bytes (bay_term s bay)) × FitsBytes (bay_term s bay) × (forms_below (edition_of s).forms (tree_in (read_term (term_bytes s bay))) ≡ true)
  unfolding cause_5 bay_term term_bytes
  bay_is_term bay l = edition_sound (edition_of s).forms (term_bytes s bay) (part_bytes s ((edition_of s).terms + bay) b)
      (each_below_sound (bays s) (λ k. one_term (bay_reading s k)) (not-false _ n.not_5) bay l)

  bay_limits : (each_below (bays s) (λ k. leb (nesting (bay_term s k)) max_nesting) ≡ true) × (ltb max_recipe_nodes (sum_below (bays s) (λ k. nodes (bay_term s k))) ≡ false)
  unfolding cause_6
  bay_limits = let (p, q) = or_parts _ _ n.not_6 in (not-false _ p, q)

  starting_are_bytes : Bytes (starting_bytes s)
  unfolding starting_bytes
  starting_are_bytes = go (edition_of s).starting
    where
      go : (t : Bool) → Bytes (cond t (part s starting_part) [])
      go true = part_bytes s starting_part b
      go false = λ i. omega arith

  says_starts : Starts (starting_nums s) (bays s)
  unfolding starting_nums starting_num word
  says_starts = record {
    one_each = length_tabulate (bays s) (starting_num s);
    two_byte = λ k m h.
        let (l, q) = tabulate_parts (bays s) (starting_num s) k h in
        omega (arith, starting_are_bytes (starting_num_length * k), starting_are_bytes (starting_num_length * k + 1));
  }

  says_written : (edition_of s).starting ≡ true → part s starting_part ≡ nums_bytes (starting_nums s)
  unfolding starting_nums starting_num
  says_written e = sym (nums_written (bays s) (starting_bytes s) starting_are_bytes (one_each laid_out n.not_19 e) ∙ some_starting s e)

  says_unwritten : (edition_of s).starting ≡ false → starting_nums s ≡ replicate (bays s) 0
  unfolding starting_nums
  says_unwritten e = tabulate_same (bays s) (starting_num s) (λ k. 0) (λ k l. unwritten s e k) ∙ sym (replicate_tabulated (bays s) 0)

  says : Recipe s (type_table s) (starting_nums s) (bay_terms s)
  unfolding bay_terms term_bytes
  says = record {
    laid = laid_out;
    table = says_table;
    kinds = table_stands.0;
    table_rule = table_stands.1;
    count = length_tabulate (bays s) (bay_term s);
    terms = λ bay e h. let (l, q) = tabulate_parts (bays s) (bay_term s) bay h in let (p, f, below) = bay_is_term bay l in rw q (p, f);
    forms = λ bay l. (bay_is_term bay l).2;
    shallow = λ bay e h.
        let (l, q) = tabulate_parts (bays s) (bay_term s) bay h in
        rw q (leb_sound _ _ (each_below_sound (bays s) (λ k. leb (nesting (bay_term s k)) max_nesting) bay_limits.0 bay l));
    few_nodes = rw (nodes_tabulate (bays s) (bay_term s)) (ltb_false _ _ bay_limits.1);
    derived = (verdict_derived_iff table_stands.1 (bay_terms s)).0 n.not_7_to_11;
    starts = says_starts;
    written = says_written;
    unwritten = says_unwritten;
  }

-- and back, for any recipe that the file says
module _ {s : List ℕ} {T : Table} {ns : List ℕ} {es : List Exp} (r : Recipe s T ns es) where
  pub table_is : type_table s ≡ T
  unfolding type_table
  table_is = ap table_of r.table ∙ table_of_entries T

  bay_of : (bay : ℕ) (e : Exp) → at es bay ≡ some e → bay_term s bay ≡ e
  unfolding bay_term term_bytes
  bay_of bay e h = let (p, f) = r.terms bay e h in rw p (term_of_bytes e f)

  pub terms_are : bay_terms s ≡ es
  unfolding bay_terms
  terms_are = tabulate_is (bays s) (bay_term s) es r.count bay_of

  num_of : (k n : ℕ) → at ns k ≡ some n → starting_num s k ≡ n
  unfolding starting_num
  num_of k n h = go (edition_of s).starting refl
    where
      go : (t : Bool) → (edition_of s).starting ≡ t → word (starting_bytes s) (starting_num_length * k) ≡ n
      go true e = rw (some_starting s e, r.written e) (nums_read ns k h)
      go false e = let q = (at_replicate (bays s) 0 k (ap (λ (l : List ℕ). at l k) (sym (r.unwritten e)) ∙ h)).1 in unwritten s e k ∙ sym q

  pub nums_are : starting_nums s ≡ ns
  unfolding starting_nums
  nums_are = tabulate_is (bays s) (starting_num s) ns r.starts.one_each num_of

  no_cause_19 : cause_19 s ≡ false
  no_cause_19 = go (edition_of s).starting refl
    where
      go : (t : Bool) → (edition_of s).starting ≡ t → cause_19 s ≡ false
      go false e = sym (never_19 s e)
      go true e =
          let l : length_of s starting_part ≡ starting_num_length * bays s = sym (length_part (starting_is_part r.laid e)) ∙ ap length (r.written e) ∙ length_nums ns ∙ ap (λ (b : ℕ). starting_num_length * b) r.starts.one_each in
          sym (by_length s e _ _ refl refl) ∙ ap not (eqb_complete _ _ l)

  bay_there : (bay : ℕ) → bay < bays s → (e : Exp) × (at es bay ≡ some e)
  bay_there bay l = at_below es bay (omega (arith, r.count))

  each_one_term : each_below (bays s) (λ k. one_term (bay_reading s k)) ≡ true
  unfolding term_bytes
  each_one_term = each_below_complete (bays s) _ λ bay l.
      let (e, h) = bay_there bay l in let (p, f) = r.terms bay e h in edition_complete (edition_of s).forms (term_bytes s bay) e p f (r.forms bay l)

  each_shallow : each_below (bays s) (λ k. leb (nesting (bay_term s k)) max_nesting) ≡ true
  each_shallow = each_below_complete (bays s) _ λ bay l.
      let (e, h) = bay_there bay l in rw (bay_of bay e h) (leb_complete _ _ (r.shallow bay e h))

  nodes_few : sum_below (bays s) (λ k. nodes (bay_term s k)) ≤ max_recipe_nodes
  unfolding bay_terms
  nodes_few = let t = terms_are in rw (← (nodes_tabulate (bays s) (bay_term s)), t) r.few_nodes

  pub no_cause : NoCause s
  unfolding cause_4 cause_5 cause_6
  no_cause = let (a, b, c) = (laid_iff s).1 r.laid in record {
    not_1 = a;
    not_2 = b;
    not_3 = c;
    not_4 = rw (table_is, (table_test_iff (edition_of s).kinds T).1 (r.kinds, r.table_rule)) refl;
    not_5 = rw each_one_term refl;
    not_6 = or_false {a = not (each_below (bays s) (λ k. leb (nesting (bay_term s k)) max_nesting))} (rw each_shallow refl) (ltb_not _ _ nodes_few);
    not_7_to_11 = rw (table_is, terms_are) ((verdict_derived_iff r.table_rule es).1 r.derived);
    not_19 = no_cause_19;
  }

  few_bays : bays s ≤ max_bays
  few_bays = r.laid.has_parts.high

  -- causes 4 to 11 as the calculus has them, so what it says of runs holds of this recipe's
  pub admitted : Admitted T ns es
  admitted = record {
    table = r.table_rule;
    written = λ i e h. (r.terms i e h).1.writable;
    starts = rw r.count r.starts;
    bays = omega (arith, r.count, few_bays);
    size = r.few_nodes;
    accepted = (verdict_derived_iff r.table_rule es).1 r.derived;
  }

-- document 01, the second demand: accepted exactly when
pub accepted_exactly : (s : List ℕ) → Bytes s → (refusal s ≡ 0) ↔ ((T : Table) × (ns : List ℕ) × (es : List Exp) × Recipe s T ns es)
accepted_exactly s b = (
  λ e. (type_table s, starting_nums s, bay_terms s, says s b ((no_cause_iff s).0 e)),
  λ (T, ns, es, r). (no_cause_iff s).1 (no_cause r),
)

-- a file says one recipe
pub one_recipe : {s : List ℕ} {T T' : Table} {ns ns' : List ℕ} {es es' : List Exp} → Recipe s T ns es → Recipe s T' ns' es' → (T ≡ T') × (ns ≡ ns') × (es ≡ es')
one_recipe r r' = (sym (table_is r) ∙ table_is r', sym (nums_are r) ∙ nums_are r', sym (terms_are r) ∙ terms_are r')

-- the type number answered for a bay is that of the one type that its term has
pub type_answered : {s : List ℕ} {T : Table} {ns : List ℕ} {es : List Exp} → Recipe s T ns es → (bay : ℕ) (e : Exp) → at es bay ≡ some e →
    (α : LinType) × (type_at T (get_or (bay_type_numbers s) bay 0) ≡ some α) × Derivation (type_at T) (setting_types (length es)) [] e α × (multiplicity α ≡ many)
unfolding bay_type_numbers bay_type_number number_in
type_answered {s} {T} {ns} {es} r bay e h =
    let l : bay < bays s = omega (arith, at_bound es bay h, r.count) in
    let m : bay < max_bays = omega (arith, few_bays r) in
    let (n, a) = (verdict_iff T es).0 (admitted r).accepted bay e h in
    let (α, q, d, w) = (accepted_iff r.table_rule (length es) e n).0 a in
    let t : get_or (tabulate max_bays (bay_type_number s)) bay 0 ≡ n =
    get_d_at (tabulate max_bays (bay_type_number s)) bay (tabulate_at max_bays (bay_type_number s) bay m) ∙ rw (ltb_complete bay (bays s) l, table_is r, bay_of r bay e h, a.no_cause_9) refl in
    (α, rw t q, d, w)
