-- Cases, computed: images that stand, and slices that break one sentence of "The image" each.
use mathlib.Core.Path.{◌≡◌, refl}
use mathlib.Core.List.{List, [], ◌∷◌}
use Prim.Native.Nat.{ℕ}
use Rattle.calculus.specs.Syntax.{sum_in, sum_all}
use Rattle.calculus.specs.Bytes.{word}
use Rattle.calculus.specs.Lists.{each_below, tabulate}
use Rattle.calculus.specs.Step.{beside, place, within}
use Rattle.calculus.specs.Image.{component_test, each_test, expression_test, handle_for, image_test, is_awaited, is_settled, limits_test, nodes}
use Rattle.term.specs.Forms.{form_of, forms}
use Rattle.term.specs.Numbers.{value_of}
use Rattle.term.specs.Reader.{one_term, read, read_term}
use Rattle.term.specs.Expressions.{exp_of, leaf_exp, leaf_forms, term_of, two_exp, two_forms}
use Rattle.image_layout.specs.Slice.{companion_at, encoded_all, encoded_at, expression_at, kind_at, length_at, names, offset_at}
use Rattle.image_layout.specs.Layout.{companion_test, head_agrees, head_stands, heads_stand, kind_test, length_test, stand_from}
use Rattle.image.specs.Configuration.{components, config_of, decode}
use Rattle.image.specs.Stands.{image_stands, terms_stand}
use Rattle.std.proofs.Common.{Option, None, Some}
use Rattle.image_check.specs.Answer.{checked}

-- a slice, and the answer
record Row : Type 0 where
  slice : List ℕ
  answer : Option ℕ

abbrev rows : List Row
rows =
    -- document 01, "image 020002000E00030001001100010004000003"
    record { slice = 0x02 ∷ 0x00 ∷ 0x02 ∷ 0x00 ∷ 0x0E ∷ 0x00 ∷ 0x03 ∷ 0x00 ∷ 0x01 ∷ 0x00 ∷ 0x11 ∷ 0x00 ∷ 0x01 ∷ 0x00 ∷ 0x04 ∷ 0x00 ∷ 0x00 ∷ 0x03 ∷ []; answer = Some 2 }
    -- no names
    ∷ record { slice = 0 ∷ 0 ∷ []; answer = Some 0 }
    ∷ record { slice = []; answer = None }
    -- a future and its handle; the handle alone; the future alone; a future with two handles; a handle without a future
    ∷ record { slice = 2 ∷ 0 ∷ 5 ∷ 0 ∷ 14 ∷ 0 ∷ 0 ∷ 0 ∷ 3 ∷ 0 ∷ 14 ∷ 0 ∷ 0 ∷ 0 ∷ []; answer = Some 0 }
    ∷ record { slice = 1 ∷ 0 ∷ 3 ∷ 0 ∷ 8 ∷ 0 ∷ 0 ∷ 0 ∷ []; answer = None }
    ∷ record { slice = 1 ∷ 0 ∷ 5 ∷ 0 ∷ 8 ∷ 0 ∷ 0 ∷ 0 ∷ []; answer = None }
    ∷ record { slice = 3 ∷ 0 ∷ 5 ∷ 0 ∷ 20 ∷ 0 ∷ 0 ∷ 0 ∷ 3 ∷ 0 ∷ 20 ∷ 0 ∷ 0 ∷ 0 ∷ 3 ∷ 0 ∷ 20 ∷ 0 ∷ 0 ∷ 0 ∷ []; answer = None }
    ∷ record { slice = 1 ∷ 0 ∷ 3 ∷ 1 ∷ 8 ∷ 0 ∷ 0 ∷ 0 ∷ []; answer = None }
    -- a thread with a place where two values meet; a cell with the same
    ∷ record { slice = 1 ∷ 0 ∷ 1 ∷ 0 ∷ 8 ∷ 0 ∷ 3 ∷ 0 ∷ 2 ∷ 3 ∷ 3 ∷ []; answer = Some 3 }
    ∷ record { slice = 1 ∷ 0 ∷ 2 ∷ 0 ∷ 8 ∷ 0 ∷ 3 ∷ 0 ∷ 2 ∷ 3 ∷ 3 ∷ []; answer = None }
    -- a cell with exch applied to unit, any type byte
    ∷ record { slice = 1 ∷ 0 ∷ 2 ∷ 0 ∷ 8 ∷ 0 ∷ 4 ∷ 0 ∷ 2 ∷ 6 ∷ 255 ∷ 3 ∷ []; answer = Some 3 }
    -- a bound variable; a loose one; a name that is there; one that is not
    ∷ record { slice = 1 ∷ 0 ∷ 1 ∷ 0 ∷ 8 ∷ 0 ∷ 4 ∷ 0 ∷ 1 ∷ 255 ∷ 0 ∷ 0 ∷ []; answer = Some 2 }
    ∷ record { slice = 1 ∷ 0 ∷ 1 ∷ 0 ∷ 8 ∷ 0 ∷ 2 ∷ 0 ∷ 0 ∷ 0 ∷ []; answer = None }
    ∷ record { slice = 1 ∷ 0 ∷ 1 ∷ 0 ∷ 8 ∷ 0 ∷ 2 ∷ 0 ∷ 9 ∷ 0 ∷ []; answer = Some 1 }
    ∷ record { slice = 1 ∷ 0 ∷ 1 ∷ 0 ∷ 8 ∷ 0 ∷ 2 ∷ 0 ∷ 9 ∷ 1 ∷ []; answer = None }
    -- T-03: a cell with a pair of values, any type byte; one with a pair that has a place; both variables of a case; a third; a subject in their scope
    ∷ record { slice = 1 ∷ 0 ∷ 2 ∷ 0 ∷ 8 ∷ 0 ∷ 5 ∷ 0 ∷ 10 ∷ 255 ∷ 3 ∷ 9 ∷ 0 ∷ []; answer = Some 3 }
    ∷ record { slice = 1 ∷ 0 ∷ 2 ∷ 0 ∷ 8 ∷ 0 ∷ 6 ∷ 0 ∷ 11 ∷ 0 ∷ 3 ∷ 2 ∷ 3 ∷ 3 ∷ []; answer = None }
    ∷ record { slice = 1 ∷ 0 ∷ 1 ∷ 0 ∷ 8 ∷ 0 ∷ 8 ∷ 0 ∷ 13 ∷ 9 ∷ 0 ∷ 2 ∷ 0 ∷ 0 ∷ 0 ∷ 1 ∷ []; answer = Some 5 }
    ∷ record { slice = 1 ∷ 0 ∷ 1 ∷ 0 ∷ 8 ∷ 0 ∷ 5 ∷ 0 ∷ 12 ∷ 9 ∷ 0 ∷ 0 ∷ 2 ∷ []; answer = None }
    ∷ record { slice = 1 ∷ 0 ∷ 1 ∷ 0 ∷ 8 ∷ 0 ∷ 4 ∷ 0 ∷ 12 ∷ 0 ∷ 0 ∷ 3 ∷ []; answer = None }
    -- num 1000; num 65,535; two terms; none
    ∷ record { slice = 1 ∷ 0 ∷ 1 ∷ 0 ∷ 8 ∷ 0 ∷ 3 ∷ 0 ∷ 4 ∷ 0xE8 ∷ 3 ∷ []; answer = Some 1 }
    ∷ record { slice = 1 ∷ 0 ∷ 1 ∷ 0 ∷ 8 ∷ 0 ∷ 3 ∷ 0 ∷ 4 ∷ 0xFF ∷ 0xFF ∷ []; answer = Some 1 }
    ∷ record { slice = 1 ∷ 0 ∷ 1 ∷ 0 ∷ 8 ∷ 0 ∷ 2 ∷ 0 ∷ 3 ∷ 3 ∷ []; answer = None }
    ∷ record { slice = 1 ∷ 0 ∷ 1 ∷ 0 ∷ 8 ∷ 0 ∷ 0 ∷ 0 ∷ []; answer = None }
    ∷ []

abbrev Hold : List Row → Type 0
Hold [] = Unit {0}
Hold (r ∷ rs) = (checked r.slice ≡ r.answer) × Hold rs

pub cases : Hold rows
unfolding checked image_stands heads_stand stand_from head_stands head_agrees kind_test companion_test length_test names kind_at companion_at offset_at length_at expression_at encoded_at encoded_all word tabulate each_below terms_stand one_term read_term read form_of forms value_of exp_of leaf_exp leaf_forms two_exp two_forms config_of decode components image_test each_test component_test limits_test expression_test is_settled place within beside is_awaited sum_all handle_for nodes sum_in term_of
cases = (refl, (refl, (refl, (refl, (refl, (refl, (refl, (refl, (refl, (refl, (refl, (refl, (refl, (refl, (refl, (refl, (refl, (refl, (refl, (refl, (refl, (refl, (refl, (refl, tt))))))))))))))))))))))))
