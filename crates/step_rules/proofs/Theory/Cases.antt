-- Cases, computed: document 01's cases B and C, step by step, and a case of each other rule.
use Rattle.std.specs.Prelude.{◌≡◌, refl, List, [], ◌∷◌, ℕ}
use Rattle.calculus.specs.Bytes.{two_bytes, word}
use Rattle.calculus.specs.Lists.{tabulate}
use Rattle.calculus.specs.Image.{nodes}
use Rattle.calculus.specs.Reduction.{substitute}
use Rattle.term.specs.Forms.{form_of, forms}
use Rattle.term.specs.Numbers.{value_of}
use Rattle.term.specs.Reader.{read, read_term}
use Rattle.term.specs.Expressions.{bytes, const_bytes, exp_of, leaf_exp, leaf_forms, term_of, two_exp, two_forms, both_tag, case_tag}
use Rattle.image_layout.specs.Encoded.{expressions, head, heads, image_bytes}
use Rattle.image_layout.specs.Slice.{companion_at, encoded_at, expression_at, kind_at, length_at, names, offset_at, owner_at}
use Rattle.step_rules.specs.declared.Move.{Move}
use Rattle.step_rules.specs.declared.Move.TheVariants.{Beta, ThreadNew, FutureDeref, HandleNew, HandleBind, CellNew, CellExch, CasePair, CaseList}
use Rattle.step_rules.specs.declared.Step.{Step}
use Rattle.step_rules.specs.Effects.{bytes_between, effect_of, taken_apart}
use Rattle.step_rules.specs.Moves.{component_after, components_after, expression_after, from_name, image_after, look_up, names_after, nodes_after, other_after, owner_after}

-- an image and its nodes, a step, and the image and its nodes after it
record Row : Type 0 where
  before : List ℕ
  nodes_before : ℕ
  step : Step
  next : List ℕ
  nodes_next : ℕ

abbrev step : ℕ → ℕ → ℕ → ℕ → Move → Step
step thread at second end by = record { thread = thread; meeting = record { at = at; second = second; end = end }; by = by }

abbrev rows : List Row
rows =
    -- document 01's case B: rule 7
    record {
      before = 2 ∷ 0 ∷ 2 ∷ 0 ∷ 14 ∷ 0 ∷ 3 ∷ 0 ∷ 1 ∷ 0 ∷ 17 ∷ 0 ∷ 9 ∷ 0 ∷ 4 ∷ 0 ∷ 0 ∷ 2 ∷ 2 ∷ 6 ∷ 4 ∷ 9 ∷ 0 ∷ 4 ∷ 250 ∷ 0 ∷ [];
      nodes_before = 6;
      step = step 1 17 23 26 (CellExch 0 14 17);
      next = 2 ∷ 0 ∷ 2 ∷ 0 ∷ 14 ∷ 0 ∷ 3 ∷ 0 ∷ 1 ∷ 0 ∷ 17 ∷ 0 ∷ 3 ∷ 0 ∷ 4 ∷ 250 ∷ 0 ∷ 4 ∷ 0 ∷ 0 ∷ [];
      nodes_next = 2;
    }
    -- document 01's case C: rules 4, 1, 1, 5
    ∷ record {
      before = 2 ∷ 0 ∷ 2 ∷ 0 ∷ 14 ∷ 0 ∷ 3 ∷ 0 ∷ 1 ∷ 0 ∷ 17 ∷ 0 ∷ 12 ∷ 0 ∷ 4 ∷ 0 ∷ 0 ∷ 2 ∷ 8 ∷ 6 ∷ 1 ∷ 5 ∷ 1 ∷ 4 ∷ 2 ∷ 0 ∷ 0 ∷ 0 ∷ 1 ∷ [];
      nodes_before = 8;
      step = step 1 17 20 29 HandleNew;
      next = 4 ∷ 0 ∷ 2 ∷ 0 ∷ 26 ∷ 0 ∷ 3 ∷ 0 ∷ 1 ∷ 0 ∷ 29 ∷ 0 ∷ 15 ∷ 0 ∷ 5 ∷ 0 ∷ 44 ∷ 0 ∷ 0 ∷ 0 ∷ 3 ∷ 2 ∷ 44 ∷ 0 ∷ 0 ∷ 0 ∷ 4 ∷ 0 ∷ 0 ∷ 2 ∷ 2 ∷ 1 ∷ 5 ∷ 1 ∷ 4 ∷ 2 ∷ 0 ∷ 0 ∷ 0 ∷ 1 ∷ 9 ∷ 2 ∷ 9 ∷ 3 ∷ [];
      nodes_next = 10;
    }
    ∷ record {
      before = 4 ∷ 0 ∷ 2 ∷ 0 ∷ 26 ∷ 0 ∷ 3 ∷ 0 ∷ 1 ∷ 0 ∷ 29 ∷ 0 ∷ 15 ∷ 0 ∷ 5 ∷ 0 ∷ 44 ∷ 0 ∷ 0 ∷ 0 ∷ 3 ∷ 2 ∷ 44 ∷ 0 ∷ 0 ∷ 0 ∷ 4 ∷ 0 ∷ 0 ∷ 2 ∷ 2 ∷ 1 ∷ 5 ∷ 1 ∷ 4 ∷ 2 ∷ 0 ∷ 0 ∷ 0 ∷ 1 ∷ 9 ∷ 2 ∷ 9 ∷ 3 ∷ [];
      nodes_before = 10;
      step = step 1 30 40 42 Beta;
      next = 4 ∷ 0 ∷ 2 ∷ 0 ∷ 26 ∷ 0 ∷ 3 ∷ 0 ∷ 1 ∷ 0 ∷ 29 ∷ 0 ∷ 10 ∷ 0 ∷ 5 ∷ 0 ∷ 39 ∷ 0 ∷ 0 ∷ 0 ∷ 3 ∷ 2 ∷ 39 ∷ 0 ∷ 0 ∷ 0 ∷ 4 ∷ 0 ∷ 0 ∷ 2 ∷ 1 ∷ 4 ∷ 2 ∷ 0 ∷ 0 ∷ 9 ∷ 2 ∷ 9 ∷ 3 ∷ [];
      nodes_next = 7;
    }
    ∷ record {
      before = 4 ∷ 0 ∷ 2 ∷ 0 ∷ 26 ∷ 0 ∷ 3 ∷ 0 ∷ 1 ∷ 0 ∷ 29 ∷ 0 ∷ 10 ∷ 0 ∷ 5 ∷ 0 ∷ 39 ∷ 0 ∷ 0 ∷ 0 ∷ 3 ∷ 2 ∷ 39 ∷ 0 ∷ 0 ∷ 0 ∷ 4 ∷ 0 ∷ 0 ∷ 2 ∷ 1 ∷ 4 ∷ 2 ∷ 0 ∷ 0 ∷ 9 ∷ 2 ∷ 9 ∷ 3 ∷ [];
      nodes_before = 7;
      step = step 1 29 37 39 Beta;
      next = 4 ∷ 0 ∷ 2 ∷ 0 ∷ 26 ∷ 0 ∷ 3 ∷ 0 ∷ 1 ∷ 0 ∷ 29 ∷ 0 ∷ 5 ∷ 0 ∷ 5 ∷ 0 ∷ 34 ∷ 0 ∷ 0 ∷ 0 ∷ 3 ∷ 2 ∷ 34 ∷ 0 ∷ 0 ∷ 0 ∷ 4 ∷ 0 ∷ 0 ∷ 2 ∷ 9 ∷ 3 ∷ 9 ∷ 2 ∷ [];
      nodes_next = 4;
    }
    ∷ record {
      before = 4 ∷ 0 ∷ 2 ∷ 0 ∷ 26 ∷ 0 ∷ 3 ∷ 0 ∷ 1 ∷ 0 ∷ 29 ∷ 0 ∷ 5 ∷ 0 ∷ 5 ∷ 0 ∷ 34 ∷ 0 ∷ 0 ∷ 0 ∷ 3 ∷ 2 ∷ 34 ∷ 0 ∷ 0 ∷ 0 ∷ 4 ∷ 0 ∷ 0 ∷ 2 ∷ 9 ∷ 3 ∷ 9 ∷ 2 ∷ [];
      nodes_before = 4;
      step = step 1 29 32 34 (HandleBind 3 2);
      next = 4 ∷ 0 ∷ 2 ∷ 0 ∷ 26 ∷ 0 ∷ 3 ∷ 0 ∷ 1 ∷ 0 ∷ 29 ∷ 0 ∷ 1 ∷ 0 ∷ 1 ∷ 0 ∷ 30 ∷ 0 ∷ 2 ∷ 0 ∷ 4 ∷ 0 ∷ 32 ∷ 0 ∷ 0 ∷ 0 ∷ 4 ∷ 0 ∷ 0 ∷ 3 ∷ 9 ∷ 2 ∷ [];
      nodes_next = 3;
    }
    -- rule 2, rule 6
    ∷ record {
      before = 1 ∷ 0 ∷ 1 ∷ 0 ∷ 8 ∷ 0 ∷ 4 ∷ 0 ∷ 2 ∷ 7 ∷ 3 ∷ 3 ∷ [];
      nodes_before = 3;
      step = step 0 8 11 12 ThreadNew;
      next = 2 ∷ 0 ∷ 1 ∷ 0 ∷ 14 ∷ 0 ∷ 2 ∷ 0 ∷ 1 ∷ 0 ∷ 16 ∷ 0 ∷ 4 ∷ 0 ∷ 9 ∷ 1 ∷ 2 ∷ 3 ∷ 9 ∷ 1 ∷ [];
      nodes_next = 4;
    }
    ∷ record {
      before = 1 ∷ 0 ∷ 1 ∷ 0 ∷ 8 ∷ 0 ∷ 4 ∷ 0 ∷ 2 ∷ 5 ∷ 2 ∷ 3 ∷ [];
      nodes_before = 3;
      step = step 0 8 11 12 CellNew;
      next = 2 ∷ 0 ∷ 1 ∷ 0 ∷ 14 ∷ 0 ∷ 2 ∷ 0 ∷ 2 ∷ 0 ∷ 16 ∷ 0 ∷ 1 ∷ 0 ∷ 9 ∷ 1 ∷ 3 ∷ [];
      nodes_next = 2;
    }
    -- rule 3, at the function of an application and at the first argument of a full exch; the value is a lambda
    ∷ record {
      before = 2 ∷ 0 ∷ 1 ∷ 0 ∷ 14 ∷ 0 ∷ 4 ∷ 0 ∷ 1 ∷ 0 ∷ 18 ∷ 0 ∷ 4 ∷ 0 ∷ 2 ∷ 9 ∷ 1 ∷ 3 ∷ 1 ∷ 3 ∷ 0 ∷ 0 ∷ [];
      nodes_before = 5;
      step = step 0 14 17 18 (FutureDeref 18 22);
      next = 2 ∷ 0 ∷ 1 ∷ 0 ∷ 14 ∷ 0 ∷ 6 ∷ 0 ∷ 1 ∷ 0 ∷ 20 ∷ 0 ∷ 4 ∷ 0 ∷ 2 ∷ 1 ∷ 3 ∷ 0 ∷ 0 ∷ 3 ∷ 1 ∷ 3 ∷ 0 ∷ 0 ∷ [];
      nodes_next = 6;
    }
    ∷ record {
      before = 2 ∷ 0 ∷ 1 ∷ 0 ∷ 14 ∷ 0 ∷ 7 ∷ 0 ∷ 1 ∷ 0 ∷ 21 ∷ 0 ∷ 4 ∷ 0 ∷ 2 ∷ 2 ∷ 6 ∷ 4 ∷ 9 ∷ 1 ∷ 3 ∷ 1 ∷ 3 ∷ 0 ∷ 0 ∷ [];
      nodes_before = 7;
      step = step 0 14 20 21 (FutureDeref 21 25);
      next = 2 ∷ 0 ∷ 1 ∷ 0 ∷ 14 ∷ 0 ∷ 9 ∷ 0 ∷ 1 ∷ 0 ∷ 23 ∷ 0 ∷ 4 ∷ 0 ∷ 2 ∷ 2 ∷ 6 ∷ 4 ∷ 1 ∷ 3 ∷ 0 ∷ 0 ∷ 3 ∷ 1 ∷ 3 ∷ 0 ∷ 0 ∷ [];
      nodes_next = 8;
    }
    -- rule 8, index 0 the second component: case (250, 7) of (x, y) ⇒ y x y; rule 9; rule 3 at a subject, which stays a subject
    ∷ record {
      before = 1 ∷ 0 ∷ 1 ∷ 0 ∷ 8 ∷ 0 ∷ 17 ∷ 0 ∷ 12 ∷ 10 ∷ 5 ∷ 4 ∷ 250 ∷ 0 ∷ 4 ∷ 7 ∷ 0 ∷ 2 ∷ 2 ∷ 0 ∷ 0 ∷ 0 ∷ 1 ∷ 0 ∷ 0 ∷ [];
      nodes_before = 9;
      step = step 0 8 17 25 (CasePair 14);
      next = 1 ∷ 0 ∷ 1 ∷ 0 ∷ 8 ∷ 0 ∷ 11 ∷ 0 ∷ 2 ∷ 2 ∷ 4 ∷ 7 ∷ 0 ∷ 4 ∷ 250 ∷ 0 ∷ 4 ∷ 7 ∷ 0 ∷ [];
      nodes_next = 5;
    }
    ∷ record {
      before = 1 ∷ 0 ∷ 1 ∷ 0 ∷ 8 ∷ 0 ∷ 8 ∷ 0 ∷ 13 ∷ 11 ∷ 6 ∷ 3 ∷ 9 ∷ 0 ∷ 0 ∷ 0 ∷ [];
      nodes_before = 5;
      step = step 0 8 14 16 (CaseList 12);
      next = 1 ∷ 0 ∷ 1 ∷ 0 ∷ 8 ∷ 0 ∷ 2 ∷ 0 ∷ 9 ∷ 0 ∷ [];
      nodes_next = 1;
    }
    ∷ record {
      before = 2 ∷ 0 ∷ 1 ∷ 0 ∷ 14 ∷ 0 ∷ 5 ∷ 0 ∷ 1 ∷ 0 ∷ 19 ∷ 0 ∷ 4 ∷ 0 ∷ 12 ∷ 9 ∷ 1 ∷ 0 ∷ 0 ∷ 10 ∷ 5 ∷ 3 ∷ 3 ∷ [];
      nodes_before = 6;
      step = step 0 14 17 19 (FutureDeref 19 23);
      next = 2 ∷ 0 ∷ 1 ∷ 0 ∷ 14 ∷ 0 ∷ 7 ∷ 0 ∷ 1 ∷ 0 ∷ 21 ∷ 0 ∷ 4 ∷ 0 ∷ 12 ∷ 10 ∷ 5 ∷ 3 ∷ 3 ∷ 0 ∷ 0 ∷ 10 ∷ 5 ∷ 3 ∷ 3 ∷ [];
      nodes_next = 8;
    }
    ∷ []

abbrev Hold : List Row → Type 0
Hold [] = Unit {0}
Hold (r ∷ rs) = ((image_after r.before r.step ≡ r.next) × (nodes_after r.nodes_before r.before r.step ≡ r.nodes_next)) × Hold rs

pub cases : Hold rows
unfolding image_after components_after component_after other_after look_up from_name expression_after effect_of taken_apart bytes_between names_after nodes_after tabulate image_bytes heads head expressions two_bytes word names kind_at companion_at owner_at owner_after offset_at length_at expression_at encoded_at bytes const_bytes substitute nodes term_of exp_of leaf_exp leaf_forms two_exp two_forms both_tag case_tag read_term read form_of forms value_of
cases = ((refl, refl), ((refl, refl), ((refl, refl), ((refl, refl), ((refl, refl), ((refl, refl), ((refl, refl), ((refl, refl), ((refl, refl), ((refl, refl), ((refl, refl), ((refl, refl), tt))))))))))))
