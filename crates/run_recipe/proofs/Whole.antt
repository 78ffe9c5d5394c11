-- The whole run: what is answered and left, by the tests that lead to each answer.
use mathlib.Core.Path.{◌∙◌, ◌≡◌, ap, refl, subst, sym}
use mathlib.Core.Logic.{inl, inr}
use mathlib.Core.Bool.{Bool, ◌||◌, cond, false, true}
use mathlib.Core.List.{List, [], ◌++◌}
use Prim.Native.Nat.{ℕ, ◌<◌, ◌≤◌}
use native.Mathlib.Decide.{dec_lt}
use native.Mathlib.Omega.{arith}
use lib.Dec.{ltb}
use lib.ListN.{drop, length, take, take-append-drop}
use Rattle.calculus.specs.Profile.{common}
use Rattle.calculus.specs.Bytes.{Bytes}
use Rattle.calculus.specs.Causes.{buffer_cause}
use Rattle.calculus.specs.Limits.{max_image_length}
use Rattle.calculus.specs.Image.{nodes_all}
use Rattle.calculus.specs.Table.{type_at}
use Rattle.calculus.proofs.Theory.Tests.{ltb_not}
use Rattle.recipe_table.specs.Entries.{type_table}
use Rattle.check_spec.specs.Verdict.{refusal}
use Rattle.image.specs.Configuration.{config_of}
use Rattle.image.specs.Stands.{image_stands}
use Rattle.load_spec.specs.Starting.{starting_image, starting_state}
use Rattle.load_spec.specs.declared.Loaded.{Loaded}
use Rattle.load_spec.specs.Loading.{load_refusal, loaded_of, out_after_load}
use Rattle.load_spec.proofs.Theory.Told.{image_told, length_inside, length_told}
use Rattle.load_spec.proofs.Theory.Answers.{left_alone, load_refusal_is}
use Rattle.run_spec.specs.declared.Ending.{Ending}
use Rattle.run_spec.specs.declared.Ending.TheVariants.{Refused}
use Rattle.run_spec.specs.Course.{Course, course_of, take_turns}
use Rattle.run_spec.specs.Ending.{Leaves, ending_of, ends_in_first, ran, run_refusal}
use Rattle.demands.proofs.Theory.Reached.{reached_reads, reached_stands, reached_start}
use Rattle.run_spec.proofs.Theory.Ends.{ran_course, ran_number, ran_refused, run_accepted, run_short, unless_unwritten, unless_written}
use Rattle.run_recipe.specs.Running.{Holds, Starts}

-- what is answered, and what is left
abbrev pub Answers : List ℕ → ℕ → List ℕ → List ℕ → Ending → List ℕ → List ℕ → Type 0
Answers file k first second e first' second' = (e ≡ ran file k (length first) (length second)) × Leaves file k first second first' second'

-- a buffer that holds an image in its first bytes is the image and what is beyond
held : (image buffer : List ℕ) → take (length image) buffer ≡ image → buffer ≡ image ++ drop (length image) buffer
held image buffer e =
    let whole : take (length image) buffer ++ drop (length image) buffer ≡ buffer = rw take-append-drop refl in
    sym whole ∙ ap (λ (l : List ℕ). l ++ drop (length image) buffer) e

module _ (file : List ℕ) (k : ℕ) (first second : List ℕ) where
  refuses : (number : ℕ) → run_refusal file (length first) (length second) ≡ number → ¬ (number ≡ 0) → Answers file k first second (Refused number) first second
  refuses number e n =
      let r : ran file k (length first) (length second) ≡ Refused number = ran_refused file (length first) (length second) k (λ z. n (sym e ∙ z)) ∙ ap Refused e in
      (sym r, record { other = []; beyond = []; first_is = sym (unless_unwritten _ _ first number r); second_is = sym (unless_unwritten _ _ second number r) })

  -- an accepted recipe's run: the last image in its buffer
  leaves_last : ((n : ℕ) → ¬ (ran file k (length first) (length second) ≡ Refused n)) → (first' second' : List ℕ) → Holds (course_of file k) first' second' →
      Leaves file k first second first' second'
  leaves_last f first' second' h = go (ends_in_first (course_of file k)) refl h.image
    where
      go : (t : Bool) → ends_in_first (course_of file k) ≡ t → take (length (course_of file k).last) (cond t first' second') ≡ (course_of file k).last → Leaves file k first second first' second'
      go true i e =
          record {
            other = second';
            beyond = drop (length (course_of file k).last) first';
            first_is = rw i (held (course_of file k).last first' e) ∙ sym (unless_written _ _ first f);
            second_is = rw i refl ∙ sym (unless_written _ _ second f);
          }
      go false i e =
          record {
            other = first';
            beyond = drop (length (course_of file k).last) second';
            first_is = rw i refl ∙ sym (unless_written _ _ first f);
            second_is = rw i (held (course_of file k).last second' e) ∙ sym (unless_written _ _ second f);
          }

  pub second_short : length second < max_image_length → Answers file k first second (Refused buffer_cause) first second
  second_short l = refuses buffer_cause (run_short file (length first) (length second) (inr l)) (omega arith)

-- a load into the first buffer, where the second is long enough: what it answered, and what it left
pub record Loads (file first second : List ℕ) (l : Loaded) (first' : List ℕ) : Type 0 where
  pub bytes : Bytes file
  pub second_long : max_image_length ≤ length second
  pub answer : l ≡ loaded_of common file (length first)
  pub left : first' ≡ out_after_load common file first

module _ {file first second : List ℕ} (k : ℕ) {l : Loaded} {first' : List ℕ} (d : Loads file first second l first') where
  number_is : l.refusal ≡ load_refusal common file (length first)
  number_is = ap (λ (x : Loaded). x.refusal) d.answer ∙ load_refusal_is common file (length first)

  -- the causes that are left are those of the load
  refusal_is : run_refusal file (length first) (length second) ≡ l.refusal
  unfolding run_refusal load_refusal
  refusal_is = rw (ltb_not (length second) max_image_length d.second_long) (go (ltb (length first) max_image_length) _) ∙ sym number_is
    where
      go : (b : Bool) (n : ℕ) → cond (b || false) buffer_cause n ≡ cond b buffer_cause n
      go true n = refl
      go false n = refl

  -- one that is refused leaves both buffers
  pub load_refused : ¬ (l.refusal ≡ 0) → Answers file k first second (Refused l.refusal) first' second
  load_refused n =
      let same : first' ≡ first = d.left ∙ left_alone common file first (λ z. n (number_is ∙ z)) in
      subst (λ (f : List ℕ). Answers file k first second (Refused l.refusal) f second) (sym same) (refuses file k first second l.refusal refusal_is n)

  -- one that is not is of an accepted recipe
  module _ (z : l.refusal ≡ 0) where
    none : run_refusal file (length first) (length second) ≡ 0
    none = refusal_is ∙ z

    accepted : refusal file ≡ 0
    accepted = run_accepted file (length first) (length second) none

    first_long : max_image_length ≤ length first
    first_long = elim (dec_lt (length first) max_image_length) [
      | yes s ↦ absurd (let q = run_short file (length first) (length second) (inl s) in omega (arith, none))
      | no s ↦ omega arith
    ]

    loaded_length : l.length ≡ length (starting_image file)
    loaded_length = length_told file d.answer first_long z

    loaded_image : take l.length first' ≡ starting_image file
    loaded_image = image_told file first d.left d.answer first_long z

    pub loaded_inside : l.length ≤ length first'
    loaded_inside = length_inside file first d.left d.answer first_long z

    pub loaded_stands : image_stands (take l.length first') ≡ true
    unfolding starting_image
    loaded_stands = ap image_stands loaded_image ∙ reached_stands (reached_start common file d.bytes accepted)

    pub loaded_starts : (nodes : ℕ) → nodes ≡ nodes_all (config_of (take l.length first')) → length first' ≡ length first →
        Starts (record { next = 0; length = l.length; nodes = nodes }) first' second
    unfolding starting_image
    loaded_starts nodes n same =
        let r = reached_start common file d.bytes accepted in
        record {
          present = record {
            numbers = type_at (type_table file);
            state = starting_state file;
            reached = r;
            holds = loaded_image;
            long = loaded_length;
            nodes = n ∙ ap (λ (s : List ℕ). nodes_all (config_of s)) loaded_image ∙ ap nodes_all (reached_reads r);
            below = omega arith;
          };
          first_long = omega (arith, first_long);
          second_long = d.second_long;
        }

    pub has_run : (r : Ending) (first'' second'' : List ℕ) → r ≡ ending_of (take_turns k 0 (take l.length first')) → Holds (take_turns k 0 (take l.length first')) first'' second'' →
        Answers file k first second r first'' second''
    unfolding course_of
    has_run r first'' second'' p h =
        let c : take_turns k 0 (take l.length first') ≡ course_of file k = ap (take_turns k 0) loaded_image in (
          p ∙ ap ending_of c ∙ sym (ran_course file (length first) (length second) k none),
          leaves_last file k first second
              (λ n q. let (m, w) = (ran_number file (length first) (length second) k d.bytes n).0 q in m (sym w ∙ none))
              first'' second'' (subst (λ (c : Course). Holds c first'' second'') c h),
        )
