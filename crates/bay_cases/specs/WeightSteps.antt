-- Document 02, T-05, "decide room in rules 1, 8 and 9 by that": steps on both sides of the limit of nodes, by what the contract of step cites; thread 0 goes.
use Rattle.std.specs.Prelude.{◌≡◌, refl, List, [], ◌∷◌, ◌++◌, map, ℕ, ◌+◌, ◌-◌, length, replicate}
use Rattle.calculus.specs.Syntax.{sum_in, sum_all}
use Rattle.calculus.specs.Lists.{tabulate, each_below}
use Rattle.calculus.specs.Bytes.{two_bytes, word}
use Rattle.calculus.specs.Image.{nodes, expression_test, is_settled, is_awaited, handle_for, component_test, each_test, limits_test, image_test}
use Rattle.term.specs.Numbers.{value_of, little_endian}
use Rattle.term.specs.Forms.{form_of, forms}
use Rattle.term.specs.Reader.{one_term, read, read_term}
use Rattle.term.specs.Expressions.{exp_of, leaf_exp, leaf_forms, bytes, const_bytes, op_tag, both_tag, case_tag, term_of, two_exp, two_forms}
use Rattle.recipe_file.specs.Whole.{joined}
use Rattle.calculus.specs.Reduction.{substitute, plug}
use Rattle.calculus.specs.Step.{beside, within, place, when_done, step_call, step_exchange, step_meeting, step_place, step_redex, step_case, step_subject, step_of}
use Rattle.calculus.specs.Reply.{reply_of}
use Rattle.calculus.specs.Owners.{owners_after}
use Rattle.image_layout.specs.Encoded.{head, heads, expressions, image_bytes}
use Rattle.image_layout.specs.Slice.{names, kind_at, companion_at, offset_at as offset_in, length_at, expression_at, encoded_at, encoded_all, owner_at}
use Rattle.image_layout.specs.Layout.{kind_test, companion_test, length_test, head_agrees, head_stands, stand_from, heads_stand}
use Rattle.image.specs.Configuration.{encode, image_of, components, decode, config_of, owners_of, encode_all}
use Rattle.image.specs.Stands.{terms_stand, image_stands}
use Rattle.step_spec.specs.declared.Outcome.TheVariants.{Rule, Refused}
use Rattle.step_spec.specs.Stepping.{step_reply, outcome_of_reply, out_after_reply, outcome_of, out_after_step}
use Rattle.runs.specs.Run.{renewed}
use Rattle.bay_cases.specs.PairSteps.{Turn, turn, still, stepped, stepped_in}

-- a value of so many nodes, at least two: lambdas around unit
unfoldable value : ℕ → List ℕ
value n = joined (replicate (n - 1) (0x01 ∷ 0x03 ∷ [])) ++ (0x03 ∷ [])

-- terms, each applied to the next
unfoldable applied : List (List ℕ) → List ℕ
applied es = replicate (length es - 1) 0x02 ++ joined es

-- a variable by its index
abbrev index : ℕ → List ℕ
index i = 0x00 ∷ i ∷ []

-- the image of two threads, the second done: a value of so many nodes
unfoldable beside_value : List ℕ → ℕ → List ℕ
beside_value e n =
    (0x02 ∷ 0x00 ∷ 0x01 ∷ 0x00 ∷ 0x0E ∷ 0x00 ∷ [])
    ++ two_bytes (length e)
    ++ (0x01 ∷ 0x00 ∷ [])
    ++ two_bytes (14 + length e)
    ++ two_bytes (length (value n))
    ++ e
    ++ value n

-- a step by this rule, of thread 0 alone
abbrev goes : ℕ → List ℕ → List ℕ → ℕ → Turn
goes rule before after n = turn (beside_value before n) 0 (Rule rule (length (beside_value after n))) (beside_value after n)

-- no room: one node more beside it
abbrev refused : List ℕ → ℕ → Turn
refused before n = still (beside_value before n) 0 (Refused 15)

-- rule 1: a body and the value that is put in
abbrev applies : List ℕ → List ℕ → List ℕ
applies body v = 0x02 ∷ 0x01 ∷ 0x03 ∷ (body ++ v)

-- rules 8 and 9: a body and the two values, by the tags of the case and of the pair or front
abbrev takes : ℕ → ℕ → List ℕ → List ℕ → List ℕ → List ℕ
takes case both body v₁ v₂ = case ∷ both ∷ 0x05 ∷ (v₁ ++ v₂ ++ body)

-- 17 places under two lambdas, beside a variable of each of these
abbrev under : List ℕ → List ℕ
under e = 0x01 ∷ 0x03 ∷ 0x01 ∷ 0x03 ∷ applied (index 0 ∷ index 1 ∷ replicate 17 e)

-- 30 places of the one and 50 of the other
abbrev thirty_fifty : List ℕ → List ℕ → List ℕ
thirty_fifty e f = applied (replicate 30 e ++ replicate 50 f)

abbrev turns : List Turn
turns =
    -- rule 1 with 4,096 nodes after it, and with one more: 17 times 200, 18 applications, 2 lambdas and their variables. Slips: a value counted once for all its places, or less
    -- none; index 0 under every lambda
    goes 1 (applies (under (index 2)) (value 200)) (under (value 200)) 674
    ∷ refused (applies (under (index 2)) (value 200)) 675
    -- rule 8, and rule 9: 30 times 100, 50 times 12 and 79 applications. Slips: one value's weight for both; the first component for index 0
    ∷ goes 8 (takes 0x0C 0x0A (thirty_fifty (index 1) (index 0)) (value 100) (value 12)) (thirty_fifty (value 100) (value 12)) 417
    ∷ refused (takes 0x0C 0x0A (thirty_fifty (index 1) (index 0)) (value 100) (value 12)) 418
    ∷ goes 9 (takes 0x0D 0x0B (thirty_fifty (index 1) (index 0)) (value 100) (value 12)) (thirty_fifty (value 100) (value 12)) 417
    ∷ refused (takes 0x0D 0x0B (thirty_fifty (index 1) (index 0)) (value 100) (value 12)) 418
    ∷ []

-- what is claimed is what is computed
each_stepped : map stepped turns ≡ turns
unfolding two_bytes word exp_of leaf_exp leaf_forms two_exp two_forms one_term read read_term form_of forms value_of tabulate each_below nodes renewed outcome_of out_after_step step_reply outcome_of_reply out_after_reply config_of decode components image_of encode terms_stand image_stands kind_test companion_test length_test head_agrees head_stands stand_from heads_stand names kind_at companion_at offset_in length_at expression_at encoded_at encoded_all head heads expressions image_bytes bytes const_bytes op_tag both_tag case_tag little_endian reply_of sum_in sum_all expression_test is_settled is_awaited handle_for component_test each_test limits_test image_test beside within place when_done step_call step_exchange step_meeting step_place step_redex step_case step_subject step_of substitute plug term_of stepped stepped_in value applied beside_value joined owners_of owner_at owners_after encode_all
each_stepped = refl
