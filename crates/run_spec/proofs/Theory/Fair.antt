-- T-04, "No thread that a rule moves, and that finds room when its number comes round, sees more than 255 steps of others before its own". What falls with each of them
-- is how far ahead the number is, going round, where the names are as many as an image may have.
use Rattle.std.proofs.Common.{◌∙◌, ap, sym, suc-add, zero-add, arith}
use Rattle.std.specs.Prelude.{◌≡◌, refl, cond, List, [], ◌∷◌, ℕ, zero, suc, ◌+◌, ◌-◌, ◌≤◌, ◌<◌, ltb, length}
use Rattle.std.proofs.Math.Option.{some}
use Rattle.std.proofs.Math.Decide.{dec_lt}
use Rattle.calculus.specs.Profile.{common}
use Rattle.calculus.specs.Syntax.{at}
use Rattle.calculus.specs.Typing.{TypeNumbers}
use Rattle.calculus.specs.Limits.{max_image_length, max_names}
use Rattle.calculus.specs.State.{State}
use Rattle.calculus.proofs.Theory.Tests.{clash, ltb_complete, ltb_not}
use Rattle.image_layout.specs.Slice.{names}
use Rattle.image.specs.Configuration.{image_of}
use Rattle.run_spec.specs.Course.{goes, look, upward, going_round, Turn, Course, one_after}
use Rattle.run_spec.specs.HouseRunner.{up_to, ComesRound, CanStep, Sees}
use Rattle.run_spec.proofs.Theory.Searching.{In, up_to_upward, up_to_past, up_to_alone}
use Rattle.run_spec.proofs.Theory.Looks.{goes_iff}
use Rattle.demands.proofs.Theory.Reached.{Reached, reached_names, reached_rules}
use Rattle.run_spec.proofs.Theory.ReachedLooks.{not_resting, grows}
use Rattle.run_spec.proofs.Theory.Chain.{Chain, all_taken, nobody_left, one_turn, turn_in, first_turn}

-- how many numbers come before x at most
unfoldable ahead : ℕ → ℕ → ℕ
ahead next x = cond (ltb x next) (max_names - next + x) (x - next)

ahead_on : (next x : ℕ) → next ≤ x → ahead next x ≡ x - next
unfolding ahead
ahead_on next x l = rw (ltb_not x next l) refl

ahead_round : (next x : ℕ) → x < next → ahead next x ≡ max_names - next + x
unfolding ahead
ahead_round next x l = rw (ltb_complete x next l) refl

ahead_few : (next x : ℕ) → x < max_names → ahead next x < max_names
ahead_few next x l = elim (dec_lt x next) [ yes p ↦ omega (arith, ahead_round next x p) | no p ↦ omega (arith, ahead_on next x (omega arith)) ]

-- a number that does not come round before y is stepped is nearer then
module _ (m next x y : ℕ) (few : m ≤ max_names) (begin : next ≤ m) (x_there : x < m) (y_there : y < m) (other : ¬ (y ≡ x))
    (missed : ¬ In x (up_to y (going_round m next))) where
  nearer : ahead (one_after y) x < ahead next x
  unfolding going_round one_after
  nearer = go (dec_lt y next) (dec_lt x next) (dec_lt x y)
    where
      go : Dec (y < next) → Dec (x < next) → Dec (x < y) → ahead (y + 1) x < ahead next x
      go (yes yn) (yes xn) (yes xy) = absurd (missed (up_to_past y next (m - next) x (upward 0 next) yn (up_to_alone y next x (omega arith) xn)))
      go (yes yn) (yes xn) (no xy) = omega (arith, ahead_round next x xn, ahead_on (y + 1) x (omega arith))
      go (yes yn) (no xn) z = absurd (missed (up_to_upward y next (m - next) x (upward 0 next) (omega arith) (omega arith) (λ w a b q. omega arith)))
      go (no yn) (yes xn) z = omega (arith, ahead_round next x xn, ahead_round (y + 1) x (omega arith))
      go (no yn) (no xn) (yes xy) = absurd (missed (up_to_upward y next (m - next) x (upward 0 next) (omega arith) (omega arith) (λ w a b q. omega arith)))
      go (no yn) (no xn) (no xy) = omega (arith, ahead_on next x (omega arith), ahead_on (y + 1) x (omega arith))

-- the thread that is stepped is a name of the image
pub goes_below : {τ : TypeNumbers} {s : State} → Reached common τ s → (y : ℕ) {image' : List ℕ} → look (image_of s.owned) y ≡ goes image' → y < length s.owned.config
goes_below r y g = not_resting r y (λ q. clash (cc))

-- a turn of a stretch: it steps another than x, and x goes if it comes round
abbrev Other : Turn → ℕ → Type 0
Other t x = (¬ (t.thread ≡ x)) × (ComesRound t x → CanStep t.image x)

-- a stretch of n turns from the first on
abbrev Others : List Turn → ℕ → ℕ → Type 0
Others turns x n = (j : ℕ) → j < n → (t : Turn) × (at turns j ≡ some t) × Other t x

-- where there are no turns, there is no such stretch
none_of : (x n w : ℕ) → Others [] x n → n ≤ w
none_of x zero w o = omega arith
none_of x (suc n) w o = let (t, e, f) = o 0 (omega arith) in absurd (clash (cc))

-- a stretch that begins with the first turn is not longer than x is ahead
others_few : {τ : TypeNumbers} {k next : ℕ} {s : State} {c : Course} → Chain τ k next s c → next ≤ length s.owned.config → (x : ℕ) → x < length s.owned.config →
    (n : ℕ) → Others c.turns x n → n ≤ ahead next x
unfolding one_after
others_few {next = next} (all_taken r) l x there n o = none_of x n (ahead next x) o
others_few {next = next} (nobody_left r f) l x there n o = none_of x n (ahead next x) o
others_few (one_turn r f c) l x there zero o = omega arith
others_few {next = next} {s = s} (one_turn {x = y} r (g, only) c) l x there (suc n) o =
    let (t, h, other) = o 0 (omega arith) in
    let same : turn_in s next y ≡ t = cc in
    let (not_x, comes) : Other (turn_in s next y) x = rw (← same) at other in
    let m = reached_names r in
    let below = goes_below r y g in
    let missed : ¬ In x (up_to y (going_round (names (image_of s.owned)) next)) = λ i. not_x (sym (only x i ((goes_iff (image_of s.owned) x).1 (comes i)))) in
    let near = nearer (names (image_of s.owned)) next x y (omega (arith, (reached_rules r).limits.few_names)) (omega arith) (omega arith) (omega arith) not_x missed in
    let more = grows r y g max_image_length (omega arith) in
    let rest = others_few c (omega arith) x (omega arith) n (λ j b. o (suc j) (omega arith)) in
    omega arith

-- no turns, or a stretch that begins later
no_stretch : (x i n : ℕ) → Sees [] x i n → n < max_names
no_stretch x i zero z = omega arith
no_stretch x i (suc n) z = let (t, e, f) = z.others 0 (omega arith) in absurd (clash (cc))

later : {t : Turn} {ts : List Turn} {x i n : ℕ} → Sees (t ∷ ts) x (suc i) n → Sees ts x i n
later {t = t₀} {ts = ts} {i = i} z = record { there = z.there; others = λ j l. let (t, h, f) = z.others j l in (t, ap (at (t₀ ∷ ts)) (sym (suc-add i j)) ∙ h, f) }

-- one that begins with the first turn
module _ {τ : TypeNumbers} {k next : ℕ} {s : State} {c : Course} (h : Chain τ k next s c) (r : Reached common τ s) (l : next ≤ length s.owned.config) (x : ℕ) where
  fair_now : (n : ℕ) → Sees c.turns x 0 n → n < max_names
  fair_now zero z = omega arith
  fair_now (suc n) z =
      let (t, e, f) = z.others 0 (omega arith) in
      let there : x < length s.owned.config = omega (arith, z.there t e, ap names (first_turn h t e).0, reached_names r) in
      omega (
        arith,
        ahead_few next x (omega (arith, (reached_rules r).limits.few_names)),
        others_few h l x there (suc n) (λ j b. let (u, g, w) = z.others j b in (u, ap (at c.turns) (sym (zero-add j)) ∙ g, w)),
      )

pub fair_from : {τ : TypeNumbers} {k next : ℕ} {s : State} {c : Course} → Chain τ k next s c → next ≤ length s.owned.config → (x i n : ℕ) → Sees c.turns x i n → n < max_names
unfolding one_after
fair_from (all_taken r) l x i n z = no_stretch x i n z
fair_from (nobody_left r f) l x i n z = no_stretch x i n z
fair_from (one_turn r f c) l x zero n z = fair_now (one_turn r f c) r l x n z
fair_from (one_turn {x = y} r (g, only) c) l x (suc i) n z =
    fair_from c (omega (arith, goes_below r y g, grows r y g max_image_length (omega arith))) x i n (later z)
