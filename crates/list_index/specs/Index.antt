-- What is found out once of a table, so that a search passes over what cannot stand: which constants are instances of Fig. 8, and the types by what they
-- come to when they are applied.
use Rattle.std.specs.Prelude.{◌≡◌, Bool, ◌&&◌, false, true, List, ◌*◌, ◌+◌, ◌-◌, ◌<◌, ◌≤◌, suc, zero, ℕ, get_or, length}
use Rattle.std.proofs.Math.Option.{some}
use Rattle.calculus.specs.Limits.{byte_values}
use Rattle.calculus.specs.Table.{Table}
use Rattle.calculus.specs.Verdict.{annotated}
use Rattle.term.specs.Forms.{cell_tag, handle_tag}
use Rattle.term.specs.Expressions.{leaf_exp}
use Rattle.list_spec.specs.Goals.{meets}

-- how many constants there are with a type: four tags, and behind each a number
abbrev pub constant_codes : ℕ
constant_codes = 4 * byte_values

-- which of them are instances of Fig. 8: those of a tag stand together, in the order of the tags
pub record Constants (T : Table) (constants : List Bool) : Type 0 where
  pub wide : length constants ≡ constant_codes
  pub each : (tag arg : ℕ) → cell_tag ≤ tag → tag ≤ handle_tag → arg < byte_values → get_or constants ((tag - cell_tag) * byte_values + arg) false ≡ annotated T (leaf_exp tag arg)

-- the nodes that have a type number: lambdas, band 0, and the constants, bands 1 to 4
abbrev pub bands : ℕ
bands = 5

abbrev pub band_codes : ℕ
band_codes = bands * byte_values

-- a number may stand in a band, as far as the band asks
unfoldable pub in_band : Table → ℕ → ℕ → Bool
in_band T zero t = true
in_band T (suc band) t = annotated T (leaf_exp (cell_tag + band) t)

-- the numbers of a band that come to w when they are applied to `spine` arguments
abbrev pub comes_to : Table → ℕ → ℕ → ℕ → ℕ → Bool
comes_to T spine band w t = meets T spine (some w) t && in_band T band t

-- where the first number of a band that comes to w stands, and where the next one behind t
abbrev pub first_place : ℕ → ℕ → ℕ → ℕ
first_place spine band w = (spine - 1) * (2 * band_codes) + (band * byte_values + w)

abbrev pub next_place : ℕ → ℕ → ℕ → ℕ
next_place spine band t = (spine - 1) * (2 * band_codes) + (band_codes + (band * byte_values + t))

-- a number that is found, from a place on: those that are passed over do not come to w; 0 says that there is none
pub record Skips (T : Table) (spine band w from found : ℕ) : Type 0 where
  pub up : ¬ (found ≡ 0) → from < found
  pub passed : (i : ℕ) → from < i → i < byte_values → ¬ (found ≡ 0) → i < found → comes_to T spine band w i ≡ false
  pub none_left : (i : ℕ) → from < i → i < byte_values → found ≡ 0 → comes_to T spine band w i ≡ false

-- the chains of all bands, for one argument and for two. Number 0 is in none, for it is no function.
abbrev pub chain_codes : ℕ
chain_codes = 2 * (2 * band_codes)

pub record Chains (T : Table) (chains : List ℕ) : Type 0 where
  pub wide : length chains ≡ chain_codes
  pub first : (spine band w : ℕ) → 1 ≤ spine → spine ≤ 2 → band < bands → w < byte_values → Skips T spine band w 0 (get_or chains (first_place spine band w) 0)
  pub next : (spine band w t : ℕ) → 1 ≤ spine → spine ≤ 2 → band < bands → w < byte_values → t < byte_values → meets T spine (some w) t ≡ true
      → Skips T spine band w t (get_or chains (next_place spine band t) 0)
