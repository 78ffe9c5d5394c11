-- The laws of `written` and `Wrote`. Only those that read back (`written_parts`, `front`, `beyond`) ask for room.
use Rattle.std.specs.Prelude.{◌≡◌, refl, List, [], ◌∷◌, ◌++◌, ℕ, suc, ◌+◌, ◌-◌, ◌≤◌, length, take, drop, set}
use Rattle.std.proofs.Common.{sym, ap, ◌∙◌, add-zero, zero-add, add-suc, suc-add, add_assoc, arith, length-append, take_all}
use Rattle.std.proofs.lemmas.List.Edits.{sets, sets-eq}
use Rattle.std.proofs.lemmas.Slice.{put_mid-paste}
use borrow.Rule.Slice.PartMut.{put_mid}
use Rattle.std.proofs.Math.Seq.{length-sets, take-append_seam}
use Rattle.buffer.specs.Written.{written, Wrote}

-- where there is room, the buffer in its three parts
pub written_parts : (old : List ℕ) (at : ℕ) (new : List ℕ) → at + length new ≤ length old
    → written old at new ≡ take at old ++ new ++ drop (at + length new) old
unfolding written
written_parts old at new room = sets-eq new old at room

pub length_written : (old : List ℕ) (at : ℕ) (new : List ℕ) → length (written old at new) ≡ length old
unfolding written
length_written old at new = length-sets old at new

pub written_none : (old : List ℕ) (at : ℕ) → written old at [] ≡ old
unfolding written
written_none old at = refl

-- a store is a write of one byte
pub written_one : (old : List ℕ) (at b : ℕ) → set old at b ≡ written old at (b ∷ [])
unfolding written
written_one old at b = refl

-- two writes, the second where the first ended, are one
pub written_twice : (old : List ℕ) (at : ℕ) (a b : List ℕ) → written (written old at a) (at + length a) b ≡ written old at (a ++ b)
unfolding written
written_twice old at [] b = ap (λ (k : ℕ). sets old k b) (add-zero at)
written_twice old at (x ∷ a) b =
    ap (λ (k : ℕ). sets (sets (set old at x) (suc at) a) k b) (add-suc at (length a) ∙ sym (suc-add at (length a)))
    ∙ written_twice (set old at x) (suc at) a b

-- the same laws of `Wrote`: what a proof cites

module _ {old : List ℕ} {at : ℕ} where
  -- nothing is written
  pub still : Wrote old at [] old at
  still = record { holds = sym (written_none old at); ends = sym (add-zero at) }

  -- one store
  pub stored : (b : ℕ) → Wrote old at (b ∷ []) (set old at b) (at + 1)
  stored b = record { holds = written_one old at b; ends = refl }

  module _ {a out : List ℕ} {next : ℕ} (w : Wrote old at a out next) where
    -- a second writer goes on where the first ended
    pub then : {b end : List ℕ} {last : ℕ} → Wrote out next b end last → Wrote old at (a ++ b) end last
    then {b} {end} {last} v = record {
      holds = v.holds ∙ rw (w.holds, w.ends, written_twice);
      ends = v.ends ∙ ap (λ (k : ℕ). k + length b) w.ends ∙ add_assoc at (length a) (length b) ∙ ap (λ (k : ℕ). at + k) (sym (length-append a b));
    }

    -- the buffer keeps its length
    pub same : length out ≡ length old
    same = ap length w.holds ∙ length_written old at a

    -- the same bytes by another name
    pub known_as : {b : List ℕ} → a ≡ b → Wrote old at b out next
    known_as e = rw e at w

    -- the same place by another name
    pub landed : {last : ℕ} → next ≡ last → Wrote old at a out last
    landed e = rw e at w

-- a part of the buffer that was written over
pub copied : (old src : List ℕ) (at : ℕ) {part : List ℕ} → part ≡ src → at + length src ≤ length old
    → Wrote old at src (put_mid at (at + length src - at) old part) (at + length src)
copied old src at {part} e room =
    let n : length src ≡ at + length src - at = omega arith in
    record {
      holds = put_mid-paste at (at + length src - at) old part src (length src) e n refl ∙ rw (take_all (length src) src (omega arith)) (sym (written_parts old at src room));
      ends = refl;
    }

-- what was written at the front of a buffer is its first bytes
pub front : {old new out : List ℕ} {next : ℕ} → Wrote old 0 new out next → length new ≤ length old → take next out ≡ new
front {old} {new} {out} {next} w room =
    let n : next ≡ length new = omega (arith, w.ends) in
    rw (n, w.holds, written_parts old 0 new (omega arith)) (take-append_seam new (drop (0 + length new) old))

-- document 01, "the out buffer holds the image in its first bytes and is unchanged beyond"
pub beyond : {old new out : List ℕ} {next : ℕ} → Wrote old 0 new out next → length new ≤ length old → out ≡ new ++ drop (length new) old
beyond {old} {new} {out} {next} w room =
    w.holds ∙ written_parts old 0 new (rw zero-add room) ∙ ap (λ (k : ℕ). new ++ drop k old) (zero-add (length new))
