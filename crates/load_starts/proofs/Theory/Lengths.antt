-- An accepted file of edition 2 is much shorter than a file may be, so its edition 3 twins are not too long.
use Rattle.std.proofs.Common.{◌∙◌, sym}
use Rattle.std.specs.Prelude.{◌≡◌, refl, ℕ, ◌*◌, ◌+◌, ◌≤◌, suc}
use Rattle.std.proofs.Math.Path.{ap}
use Rattle.std.proofs.Math.Option.{some}
use mathlib.Core.List.{List, [], ◌∷◌, map}
use native.Mathlib.Omega.{arith}
use Rattle.std.proofs.Math.ListN.{length, length-append}
use Rattle.calculus.specs.Limits.{max_file_length, max_node_length}
use Rattle.calculus.specs.Syntax.{Exp, at, thread_of, sum_in, sum_all}
use Rattle.calculus.specs.Image.{nodes_all}
use Rattle.calculus.proofs.Theory.Images.{size_bound}
use Rattle.term.specs.Expressions.{bytes}
use Rattle.term.proofs.Sizes.{length_bytes}
use Rattle.recipe_file.specs.Editions.{edition_2}
use Rattle.recipe_file.specs.File.{edition_of, bays, part, table_bytes, term_bytes}
use Rattle.recipe_file.specs.Starting.{starting_num_length, starting_nums}
use Rattle.recipe_file.specs.Whole.{joined, parts_from}
use Rattle.recipe_file.specs.Twins.{term_parts}
use Rattle.recipe_file.proofs.Inside.{length_table_bytes}
use Rattle.recipe_file.proofs.Twins.{all_parts_2, length_laid, parts_2}
use Rattle.recipe_table.specs.Entries.{type_table}
use Rattle.check_spec.specs.Recipe.{Recipe}

-- parts that are terms have three bytes for a node at most
terms_bound : (s : List ℕ) (es : List Exp) (i : ℕ) → ((k : ℕ) (e : Exp) → at es k ≡ some e → part s (i + k) ≡ bytes e) →
    length (joined (parts_from s (length es) i)) ≤ max_node_length * nodes_all (map thread_of es)
unfolding joined parts_from sum_all sum_in
terms_bound s [] i h = omega arith
terms_bound s (e ∷ es) i h =
    let first : part s i ≡ bytes e = let z : i ≡ i + 0 = omega arith in ap (part s) z ∙ h 0 e refl in
    let rest = terms_bound s es (i + 1) (λ k f q. let z : i + 1 + k ≡ i + suc k = omega arith in ap (part s) z ∙ h (suc k) f q) in
    omega (arith, length-append (part s i) (joined (parts_from s (length es) (i + 1))), ap length first, length_bytes e, size_bound e)

module _ {s : List ℕ} {es : List Exp} (r : Recipe s (type_table s) (starting_nums s) es) (is : edition_of s ≡ edition_2) where
  -- so many bytes of terms
  few_bytes : length (joined (term_parts s)) ≤ max_node_length * nodes_all (map thread_of es)
  unfolding term_parts term_bytes
  few_bytes = rw (sym r.count) (terms_bound s es (edition_of s).terms (λ k e h. (r.terms k e h).0))

  pub twin_short : length s + (4 + starting_num_length * bays s) ≤ max_file_length
  unfolding joined
  twin_short =
      let l = r.laid in
      let (t, e, b) = l.entries in
      omega (
        arith,
        length_laid s l,
        ap (λ (ps : List (List ℕ)). length (joined ps)) (all_parts_2 s l is),
        length-append (table_bytes s) (joined (term_parts s)),
        parts_2 s l is,
        length_table_bytes l,
        e,
        b.high,
        few_bytes,
        r.few_nodes,
        l.has_parts.high,
      )
