-- The names of a starting image one by one: what the loops read and write of them.
use mathlib.Core.Path.{◌≡◌, refl, sym, ap, ◌∙◌}
use mathlib.Core.List.{List, ◌++◌}
use Prim.Native.Nat.{ℕ, zero, suc, ◌+◌, ◌*◌, ◌-◌, ◌<◌, ◌≤◌}
use native.Mathlib.Omega.{arith}
use lib.ListN.{get_or, length, length-append, drop, take, length-drop}
use lib.Seq.{take_all}
use Rattle.calculus.specs.Bytes.{Bytes, two_bytes}
use Rattle.calculus.specs.Limits.{byte_values, first_head, max_bays, max_image_length}
use Rattle.calculus.specs.Lists.{tabulate}
use Rattle.calculus.proofs.Theory.Tests.{ltb_complete, ltb_not}
use Rattle.calculus.proofs.Theory.Tabulate.{tabulate_at, tabulate_same}
use Rattle.recipe_file.specs.File.{bays, pair_offset, offset_of, term_bytes}
use Rattle.recipe_file.specs.Starting.{starting_num}
use Rattle.recipe_file.specs.FileRule.{FileRule}
use Rattle.recipe_file.proofs.Inside.{few_parts, pairs_inside, term_is_part}
use Rattle.check_spec.specs.Verdict.{refusal}
use Rattle.calculus.proofs.Theory.Lists.{get_d_at}
use Rattle.buffer.specs.Written.{Wrote}
use Rattle.buffer.proofs.Theory.TwoBytes.{length_two_bytes}
use Rattle.buffer.proofs.Theory.Writes.{then, known_as}
use Rattle.calculus.specs.Kinds.{thread_kind, cell_kind}
use Rattle.image_layout.specs.Encoded.{Encoded, heads, head_offset, expressions}
use Rattle.image_layout.specs.Heads.{Says}
use Rattle.image_layout.proofs.Theory.Components.{expressions_append, so_far, so_far_none, so_far_next, length_tabulated}
use Rattle.image_layout.specs.Room.{Room}
use Rattle.image_layout.proofs.Theory.Turns.{image_turns}
use Rattle.load_spec.specs.Starting.{starting_image}
use Rattle.load_image.specs.Starting.{first_term, setting, setting_bytes, setting_length, bay_thread, starting_at, starting_names}
use Rattle.load_image.proofs.Theory.Parts.{starting_parts, terms_are_end}
use Rattle.load_spec.proofs.Theory.Image.{laid, starting_fits}
use Rattle.load_image.proofs.Theory.Image.{starting_tabulated}

-- at most 16 bays
pub few_bays : {s : List ℕ} → FileRule s → bays s ≤ max_bays
few_bays l = l.has_parts.high

-- the first term's pair stands in the file
pub first_pair : {s : List ℕ} → FileRule s → (first_term s < byte_values) × (pair_offset (first_term s + 1) ≤ length s)
first_pair l =
    let h = term_is_part (record { laid = l; below = l.has_parts.low }) in
    (omega (arith, h.below, few_parts l), omega (arith, h.below, pairs_inside l))

-- what the head of name k says
pub says_setting : (s : List ℕ) (k : ℕ) → k < bays s → Says (record { kind = cell_kind; companion = k; size = setting_length }) (starting_at s k)
unfolding starting_at setting setting_bytes two_bytes
says_setting s k l = rw (ltb_complete k (bays s) l) (record { kinds = refl; companions = refl; sizes = refl })

pub says_thread : (s : List ℕ) (k : ℕ) {n size : ℕ} → n ≡ bays s → n ≤ k → size ≡ length (term_bytes s (k - n)) → Says (record { kind = thread_kind; companion = k - n; size = size }) (starting_at s k)
unfolding starting_at bay_thread
says_thread s k e l p = rw (ltb_not k (bays s) (omega arith)) (record { kinds = refl; companions = ap (λ (n : ℕ). k - n) e; sizes = p ∙ ap (λ (n : ℕ). length (term_bytes s (k - n))) e })

-- three bytes for each setting, whatever the nums
pub settings_length : (f : ℕ → ℕ) (n : ℕ) → so_far (λ k. setting (f k) k) n ≡ setting_length * n
unfolding setting setting_bytes two_bytes
settings_length f zero = so_far_none (λ k. setting (f k) k)
settings_length f (suc n) = omega (arith, so_far_next (λ k. setting (f k) k) n, settings_length f n)

-- the nums that were read are those of the file
pub settings_read : (s nums : List ℕ) {b : ℕ} → FileRule s → nums ≡ tabulate max_bays (starting_num s) → b ≡ bays s →
    tabulate b (λ k. setting (get_or nums k 0) k) ≡ tabulate (bays s) (λ k. setting (starting_num s k) k)
settings_read s nums l e f =
    rw f (tabulate_same (bays s) _ _ (λ k h.
    let m : k < max_bays = omega (arith, few_bays l) in
    ap (λ (n : ℕ). setting n k) (ap (λ (x : List ℕ). get_or x k 0) e ∙ get_d_at (tabulate max_bays (starting_num s)) k (tabulate_at max_bays (starting_num s) k m))))

-- the number of names was written, and the heads begin behind it
pub names_wrote : (s : List ℕ) {b : ℕ} {old out : List ℕ} {next : ℕ} → b ≡ bays s → Wrote old 0 (two_bytes (b + b)) out next
    → (next ≡ first_head) × Wrote old 0 (two_bytes (starting_names s)) out next
names_wrote s {b} e w = (omega (arith, w.ends, length_two_bytes (b + b)), known_as w (ap (λ (n : ℕ). two_bytes (n + n)) e))

module _ (s : List ℕ) (b : Bytes s) (accepted : refusal s ≡ 0) where
  -- there is room for the image
  pub starting_room : {out : List ℕ} → max_image_length ≤ length out → Room (starting_names s) (starting_at s) out
  starting_room room =
      let e = ap length (starting_tabulated s b accepted) in
      let n = starting_fits s b accepted in
      record { fits_in = omega arith; small = omega arith }

  -- where the expressions of all names end
  pub expressions_length : so_far (starting_at s) (starting_names s) ≡ setting_length * bays s + (length s - offset_of s (first_term s))
  expressions_length =
      let l = laid s b accepted in
      ap (λ (E : List Encoded). length (expressions E)) (starting_parts s)
      ∙ simp (expressions_append, length-append)
      (omega (arith, settings_length (starting_num s) (bays s), ap length (terms_are_end s l), length-drop (offset_of s (first_term s)) s))

  -- the whole length, in its three parts
  pub starting_length : head_offset (starting_names s) + (setting_length * bays s + (length s - offset_of s (first_term s))) ≤ max_image_length
  starting_length =
      omega (arith, expressions_length, length_tabulated (starting_names s) (starting_at s), ap length (starting_tabulated s b accepted), starting_fits s b accepted)

  -- the four writes are the image
  pub starting_wrote : {old a c d out : List ℕ} {first second third last : ℕ}
      → Wrote old 0 (two_bytes (starting_names s)) a first
      → Wrote a first (heads (head_offset (starting_names s)) (tabulate (starting_names s) (starting_at s))) c second
      → Wrote c second (expressions (tabulate (bays s) (λ k. setting (starting_num s k) k))) d third
      → Wrote d third (take (length s - offset_of s (first_term s)) (drop (offset_of s (first_term s)) s)) out last
      → Wrote old 0 (starting_image s) out last
  starting_wrote u h p t =
      let l = laid s b accepted in
      let all = take_all (length s - offset_of s (first_term s)) (drop (offset_of s (first_term s)) s) (omega (arith, length-drop (offset_of s (first_term s)) s)) in
      let e : expressions (tabulate (bays s) (λ k. setting (starting_num s k) k)) ++ take (length s - offset_of s (first_term s)) (drop (offset_of s (first_term s)) s) ≡ expressions (tabulate (starting_names s) (starting_at s)) =
      rw (all, ← (terms_are_end s l), starting_parts s, expressions_append) refl in
      known_as (image_turns (starting_names s) (starting_at s) u h (known_as (then p t) e)) (sym (starting_tabulated s b accepted))
