-- The test of the layout in one pass decides the layout.
use Rattle.std.specs.Prelude.{◌≡◌, Bool, false, ◌&&◌, ◌||◌, ◌↔◌, List, eqb, ltb, length}
use Rattle.std.proofs.Math.Path.{refl, sym, ap}
use Rattle.std.proofs.Common.{subst, ◌∙◌, true≢false, add-zero, zero-add, add-suc, suc-add, arith}
use Rattle.std.proofs.Math.Bool.{true}
use Prim.Native.Nat.{ℕ, zero, suc, ◌+◌, ◌≤◌, ◌<◌}
use Rattle.std.proofs.Math.Decide.{dec_lt}
use Rattle.std.proofs.Math.Dec.{leb}
use borrow.Author.Tests.{ltb-false, ltb-true, leb-true, eqb-true, eqb-false, le-ltb, lt-ltb, le-leb, eq-eqb, ne_eqb}
use Rattle.calculus.proofs.Theory.Tests.{and_true, and_parts}
use Rattle.calculus.specs.Kinds.{thread_kind, open_handle_kind, future_kind}
use Rattle.calculus.specs.Limits.{max_bays}
use Rattle.image_layout.specs.Encoded.{head_offset}
use Rattle.image_layout.specs.Slice.{names, kind_at, companion_at, offset_at, length_at}
use Rattle.image_layout.specs.Layout.{end_below, HeadRule, LayoutRule, kind_test, companion_test, length_test, head_agrees, head_stands, stand_from, heads_stand}

-- `or`: the second where the first is not
or_other : (a b : Bool) → (a || b) ≡ true → a ≡ false → b ≡ true
or_other true b h e = absurd (true≢false e)
or_other false b h e = h

or_by : (a b : Bool) → (a ≡ false → b ≡ true) → (a || b) ≡ true
or_by true b h = refl
or_by false b h = h refl

module _ (kind companion size : ℕ) where
  pub head_agrees_iff : (head_agrees kind companion size ≡ true) ↔ HeadRule kind companion size
  unfolding head_agrees kind_test companion_test length_test
  head_agrees_iff = (sound, complete)
    where
      sound : (head_agrees kind companion size ≡ true) → HeadRule kind companion size
      sound h =
          let (k, r) = and_parts (kind_test kind) (companion_test kind companion && length_test kind size) h in
          let (c, l) = and_parts (companion_test kind companion) (length_test kind size) r in
          let (low, high) = and_parts (leb thread_kind kind) (leb kind future_kind) k in
          record {
            kinds = (leb-true thread_kind kind low, leb-true kind future_kind high);
            companions = λ n. ltb-true companion max_bays (or_other (eqb kind open_handle_kind) (ltb companion max_bays) c (ne_eqb kind open_handle_kind n));
            lengths = λ n. eqb-true size 0 (or_other (ltb kind open_handle_kind) (eqb size 0) l (le-ltb kind open_handle_kind n));
          }

      complete : HeadRule kind companion size → head_agrees kind companion size ≡ true
      complete h =
          and_true
          (and_true (le-leb thread_kind kind h.kinds.0) (le-leb kind future_kind h.kinds.1))
          (and_true
          (or_by (eqb kind open_handle_kind) (ltb companion max_bays) (λ e. lt-ltb companion max_bays (h.companions (eqb-false kind open_handle_kind e))))
          (or_by (ltb kind open_handle_kind) (eqb size 0) (λ e. eq-eqb size 0 (h.lengths (ltb-false kind open_handle_kind e)))))

module _ (s : List ℕ) where
  -- one name: what the test of its head says
  pub record HeadStands (k end : ℕ) : Type 0 where
    pub agrees : HeadRule (kind_at s k) (companion_at s k) (length_at s k)
    pub due : offset_at s k ≡ end
    pub inside : end + length_at s k ≤ length s

  pub head_stands_iff : (k end : ℕ) → (head_stands s k end ≡ true) ↔ HeadStands k end
  unfolding head_stands
  head_stands_iff k end = (sound, complete)
    where
      sound : (head_stands s k end ≡ true) → HeadStands k end
      sound h =
          let (a, r) = and_parts (head_agrees (kind_at s k) (companion_at s k) (length_at s k)) (eqb (offset_at s k) end && leb (end + length_at s k) (length s)) h in
          let (d, i) = and_parts (eqb (offset_at s k) end) (leb (end + length_at s k) (length s)) r in
          record {
            agrees = (head_agrees_iff (kind_at s k) (companion_at s k) (length_at s k)).0 a;
            due = eqb-true (offset_at s k) end d;
            inside = leb-true (end + length_at s k) (length s) i;
          }

      complete : HeadStands k end → head_stands s k end ≡ true
      complete h =
          and_true
          ((head_agrees_iff (kind_at s k) (companion_at s k) (length_at s k)).1 h.agrees)
          (and_true (eq-eqb (offset_at s k) end h.due) (le-leb (end + length_at s k) (length s) h.inside))

  -- the names from k on, `left` of them
  pub record StandFrom (left k : ℕ) : Type 0 where
    pub each : (j : ℕ) → k ≤ j → j < k + left → HeadStands j (end_below s j)
    pub ends : end_below s (k + left) ≡ length s

  -- the first end, and the next
  pub end_first : end_below s 0 ≡ head_offset (names s)
  unfolding end_below
  end_first = refl

  pub end_next : (k end : ℕ) → end ≡ end_below s k → end + length_at s k ≡ end_below s (suc k)
  unfolding end_below
  end_next k end e = rw e

  pub from_sound : (left k end : ℕ) → end ≡ end_below s k → stand_from s left k end ≡ true → StandFrom left k
  unfolding stand_from
  from_sound zero k end e h = record {
    each = λ j low high. absurd (omega arith);
    ends = ap (end_below s) (add-zero k) ∙ sym e ∙ eqb-true end (length s) h;
  }
  from_sound (suc left) k end e h = joined (from_sound left (suc k) (end + length_at s k) (end_next k end e) parts.1)
    where
      parts : (head_stands s k end ≡ true) × (stand_from s left (suc k) (end + length_at s k) ≡ true)
      parts = and_parts (head_stands s k end) (stand_from s left (suc k) (end + length_at s k)) h

      first : HeadStands k (end_below s k)
      first = (head_stands_iff k (end_below s k)).0 (ap (head_stands s k) (sym e) ∙ parts.0)

      joined : StandFrom left (suc k) → StandFrom (suc left) k
      joined r = record {
        each = λ j low high. here j low high (dec_lt k j);
        ends = ap (end_below s) (add-suc k left ∙ sym (suc-add k left)) ∙ r.ends;
      }
        where
          here : (j : ℕ) → k ≤ j → j < k + suc left → Dec (k < j) → HeadStands j (end_below s j)
          here j low high (yes l) = r.each j (omega arith) (omega arith)
          here j low high (no n) =
              let same : k ≡ j = omega arith in
              subst (λ (x : ℕ). HeadStands x (end_below s x)) same first

  pub from_complete : (left k end : ℕ) → end ≡ end_below s k → StandFrom left k → stand_from s left k end ≡ true
  unfolding stand_from
  from_complete zero k end e h = eq-eqb end (length s) (e ∙ ap (end_below s) (sym (add-zero k)) ∙ h.ends)
  from_complete (suc left) k end e h =
      and_true
      ((head_stands_iff k end).1 (rw e (h.each k (omega arith) (omega arith))))
      (from_complete left (suc k) (end + length_at s k) (end_next k end e) record {
        each = λ j low high. h.each j (omega arith) (omega arith);
        ends = ap (end_below s) (suc-add k left ∙ sym (add-suc k left)) ∙ h.ends;
      })

  -- lower names end no later
  pub end_below_most : (m k : ℕ) → k ≤ m → end_below s k ≤ end_below s m
  end_below_most zero k h =
      let e : k ≡ 0 = omega arith in
      rw e (omega arith)
  end_below_most (suc m) k h = go (λ l. end_below_most m k l) (dec_lt k (suc m))
    where
      go : (k ≤ m → end_below s k ≤ end_below s m) → Dec (k < suc m) → end_below s k ≤ end_below s (suc m)
      go earlier (yes l) = omega (arith, earlier (omega arith), end_next m (end_below s m) refl)
      go earlier (no n) =
          let e : k ≡ suc m = omega arith in
          rw e (omega arith)

  -- the layout name by name
  pub laid_heads : LayoutRule s → (k : ℕ) → k < names s → HeadStands k (end_below s k)
  laid_heads L k h = record {
    agrees = L.heads k h;
    due = L.offsets k h;
    inside = omega (arith, end_below_most (names s) (suc k) (omega arith), end_next k (end_below s k) refl, L.ends);
  }

  -- the test decides the layout
  pub heads_stand_iff : (heads_stand s ≡ true) ↔ LayoutRule s
  unfolding heads_stand end_below
  heads_stand_iff = (sound, complete)
    where
      sound : (heads_stand s ≡ true) → LayoutRule s
      sound h =
          let (inside, rest) = and_parts (leb (head_offset (names s)) (length s)) (stand_from s (names s) 0 (head_offset (names s))) h in
          laid inside (from_sound (names s) 0 (head_offset (names s)) refl rest)
        where
          laid : leb (head_offset (names s)) (length s) ≡ true → StandFrom (names s) 0 → LayoutRule s
          laid inside r = record {
            heads_inside = leb-true (head_offset (names s)) (length s) inside;
            heads = λ k l. (r.each k (omega arith) (omega arith)).agrees;
            offsets = λ k l. (r.each k (omega arith) (omega arith)).due;
            ends = ap (end_below s) (sym (zero-add (names s))) ∙ r.ends;
          }

      complete : LayoutRule s → heads_stand s ≡ true
      complete L =
          and_true
          (le-leb (head_offset (names s)) (length s) L.heads_inside)
          (from_complete (names s) 0 (head_offset (names s)) refl record {
            each = λ j low high. laid_heads L j (omega arith);
            ends = ap (end_below s) (zero-add (names s)) ∙ L.ends;
          })
