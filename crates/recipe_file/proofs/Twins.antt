-- The twins of a file that is laid out are laid out too, where they are not too long, and have its bays, its type table and its terms.
use mathlib.Core.Path.{◌∙◌, ◌≡◌, ap, refl, sym}
use mathlib.Core.List.{List, [], ◌++◌, ◌∷◌}
use Prim.Native.Nat.{◌*◌, ◌+◌, ◌-◌, ◌<◌, ◌≤◌, suc, zero, ℕ}
use native.Mathlib.Omega.{arith}
use lib.ListN.{get_or, length, length-append, length-drop}
use lib.Seq.{get_or-append-add}
use Rattle.calculus.specs.Limits.{max_file_length}
use Rattle.recipe_file.specs.declared.Edition.{Edition}
use Rattle.recipe_file.specs.Editions.{edition_2, edition_3}
use Rattle.recipe_file.specs.File.{edition_of, parts, bays, pair_offset, part, table_part, table_bytes, term_bytes}
use Rattle.recipe_file.specs.FileRule.{FileRule}
use Rattle.recipe_file.specs.Starting.{starting_num_length, starting_part, nums_bytes}
use Rattle.recipe_file.specs.Whole.{joined, file_of, parts_from, all_parts, NoneEmpty, Makes}
use Rattle.recipe_file.specs.Twins.{term_parts, twin, edition_2_twin, edition_3_twin}
use Rattle.recipe_file.proofs.Chains.{chain}
use Rattle.recipe_file.proofs.Inside.{length_part, length_table_bytes, pairs_inside, table_is_part}
use Rattle.recipe_file.proofs.Wholes.{joined_from, length_parts}
use Rattle.recipe_file.proofs.Starting.{length_nums}
use Rattle.recipe_file.proofs.Made.{length_file, made_laid, made_parts, part_in}

-- no part of a file that is laid out is empty
none_empty : (s : List ℕ) → FileRule s → (n i : ℕ) → i + n ≤ parts s → NoneEmpty (parts_from s n i)
unfolding parts_from
none_empty s l zero i h = tt
none_empty s l (suc n) i h =
    (omega (arith, length_part {s = s} {i = i} (record { laid = l; below = omega arith }), l.some_length i (omega arith)), none_empty s l n (i + 1) (omega arith))

none_empty_both : (ps qs : List (List ℕ)) → NoneEmpty ps → NoneEmpty qs → NoneEmpty (ps ++ qs)
none_empty_both [] qs f g = g
none_empty_both (p ∷ ps) qs (e, f) g = (e, none_empty_both ps qs f g)

-- how long a file that is laid out is
pub length_laid : (s : List ℕ) → FileRule s → length s ≡ pair_offset (parts s) + length (joined (all_parts s))
unfolding all_parts
length_laid s l =
    omega (arith, pairs_inside l, ap length (joined_from s l (parts s) 0 (pair_offset (parts s)) (chain s l)), length-drop (pair_offset (parts s)) s)

-- two files that are laid out, with as many bays, the same type table and the same terms, which their editions read alike
pub record Alike (s s' : List ℕ) : Type 0 where
  pub laid : FileRule s
  pub laid' : FileRule s'
  pub forms : (edition_of s).forms ≡ (edition_of s').forms
  pub kinds : (edition_of s).kinds ≡ (edition_of s').kinds
  pub as_many : bays s ≡ bays s'
  pub table : table_bytes s ≡ table_bytes s'
  pub terms : (bay : ℕ) → bay < bays s → term_bytes s bay ≡ term_bytes s' bay

-- a twin in edition e
module _ (s : List ℕ) (l : FileRule s) (e : Edition) (between : List (List ℕ)) (known : edition_of (twin e between s) ≡ e) (place : e.terms ≡ suc (length between))
    (filled : NoneEmpty between) (short : length (twin e between s) ≤ max_file_length) where
  abbrev its : List (List ℕ)
  its = table_bytes s ∷ (between ++ term_parts s)

  length_its : length its ≡ e.terms + bays s
  unfolding term_parts
  length_its = omega (arith, length-append between (term_parts s), length_parts s (bays s) (edition_of s).terms)

  makes : Makes e its
  unfolding twin term_parts bays
  makes = record {
    known = known;
    number = let n : length its - e.terms ≡ bays s = omega (arith, length_its) in rw n l.has_parts;
    none_empty = (
      omega (arith, length_table_bytes l, l.some_length table_part (table_is_part l).below),
      none_empty_both between (term_parts s) filled (none_empty s l (bays s) (edition_of s).terms (omega (arith, l.has_parts.low))),
    );
    table = let (t, q, b) = l.entries in (t, length_table_bytes l ∙ q, b);
    short = short;
  }

  pub twin_laid : FileRule (twin e between s)
  unfolding twin
  twin_laid = made_laid e its makes

  twin_parts : parts (twin e between s) ≡ e.terms + bays s
  unfolding twin file_of parts
  twin_parts = length_its

  pub twin_bays : bays (twin e between s) ≡ bays s
  unfolding bays
  twin_bays = rw (known, twin_parts) (omega arith)

  -- its parts
  twin_part : (k : ℕ) → k < e.terms + bays s → part (twin e between s) k ≡ get_or its k []
  unfolding all_parts twin
  twin_part k h =
      sym (part_in (twin e between s) (parts (twin e between s)) 0 k (omega (arith, twin_parts)) ∙ ap (part (twin e between s)) (let q : 0 + k ≡ k = omega arith in q))
      ∙ ap (λ (ps : List (List ℕ)). get_or ps k []) (made_parts e its makes)

  twin_table : table_bytes (twin e between s) ≡ table_bytes s
  unfolding table_bytes
  twin_table = twin_part table_part (omega (arith, l.has_parts.low))

  twin_term : (bay : ℕ) → bay < bays s → term_bytes (twin e between s) bay ≡ term_bytes s bay
  unfolding term_bytes term_parts
  twin_term bay h =
      let n : e.terms + bay ≡ suc (length between + bay) = omega arith in
      ap (λ (f : Edition). part (twin e between s) (f.terms + bay)) known
      ∙ twin_part (e.terms + bay) (omega arith)
      ∙ ap (λ (k : ℕ). get_or its k []) n
      ∙ get_or-append-add between (term_parts s) bay []
      ∙ part_in s (bays s) (edition_of s).terms bay h

  pub twin_alike : (edition_of s).forms ≡ e.forms → (edition_of s).kinds ≡ e.kinds → Alike s (twin e between s)
  twin_alike f k = record {
    laid = l;
    laid' = twin_laid;
    forms = f ∙ ap (λ (x : Edition). x.forms) (sym known);
    kinds = k ∙ ap (λ (x : Edition). x.kinds) (sym known);
    as_many = sym twin_bays;
    table = sym twin_table;
    terms = λ bay h. sym (twin_term bay h);
  }

  -- the starting part of an edition 3 twin
  pub twin_starting : (p : List ℕ) → between ≡ p ∷ [] → part (twin e between s) starting_part ≡ p
  twin_starting p q = twin_part starting_part (omega (arith, place, ap length q)) ∙ rw q refl

-- how long a twin is
length_joined_both : (ps qs : List (List ℕ)) → length (joined (ps ++ qs)) ≡ length (joined ps) + length (joined qs)
unfolding joined
length_joined_both [] qs = omega arith
length_joined_both (p ∷ ps) qs = omega (arith, length-append p (joined (ps ++ qs)), length-append p (joined ps), length_joined_both ps qs)

length_twin : (e : Edition) (between : List (List ℕ)) (s : List ℕ) →
    length (twin e between s) ≡ pair_offset (suc (length between + bays s)) + (length (table_bytes s) + (length (joined between) + length (joined (term_parts s))))
unfolding twin joined term_parts
length_twin e between s =
    let its = between ++ term_parts s in
    omega (
      arith,
      length_file e (table_bytes s ∷ its),
      length-append (table_bytes s) (joined its),
      length_joined_both between (term_parts s),
      length-append between (term_parts s),
      length_parts s (bays s) (edition_of s).terms,
    )

-- an edition 3 file and its edition 2 twin, which is shorter
module _ (s : List ℕ) (l : FileRule s) (is : edition_of s ≡ edition_3) where
  parts_3 : parts s ≡ suc (suc (bays s))
  unfolding bays
  parts_3 = omega (arith, ap (λ (x : Edition). x.terms) is, l.has_parts.low)

  pub all_parts_3 : all_parts s ≡ table_bytes s ∷ part s starting_part ∷ term_parts s
  unfolding all_parts parts_from table_bytes term_parts
  all_parts_3 = rw (parts_3, is) refl

  pub length_edition_2 : length s ≡ length (edition_2_twin s) + (4 + length (part s starting_part))
  unfolding joined
  length_edition_2 = omega (
    arith,
    length_laid s l,
    ap (λ (ps : List (List ℕ)). length (joined ps)) all_parts_3,
    length-append (table_bytes s) (part s starting_part ++ joined (term_parts s)),
    length-append (part s starting_part) (joined (term_parts s)),
    length_twin edition_2 [] s,
    parts_3,
  )

  pub edition_2_known : edition_of (edition_2_twin s) ≡ edition_2
  unfolding edition_of twin file_of
  edition_2_known = refl

  pub edition_2_alike : Alike s (edition_2_twin s)
  edition_2_alike = twin_alike s l edition_2 [] edition_2_known refl tt (omega (arith, length_edition_2, l.size.high)) (rw is refl) (rw is refl)

-- an edition 2 file and its edition 3 twins, which are longer
module _ (s : List ℕ) (l : FileRule s) (is : edition_of s ≡ edition_2) where
  pub parts_2 : parts s ≡ suc (bays s)
  unfolding bays
  parts_2 = omega (arith, ap (λ (x : Edition). x.terms) is, l.has_parts.low)

  pub all_parts_2 : all_parts s ≡ table_bytes s ∷ term_parts s
  unfolding all_parts parts_from table_bytes term_parts
  all_parts_2 = rw (parts_2, is) refl

  module _ (ns : List ℕ) (one_each : length ns ≡ bays s) where
    pub length_edition_3 : length (edition_3_twin ns s) ≡ length s + (4 + starting_num_length * bays s)
    unfolding joined
    length_edition_3 = omega (
      arith,
      length_laid s l,
      ap (λ (ps : List (List ℕ)). length (joined ps)) all_parts_2,
      length-append (table_bytes s) (joined (term_parts s)),
      length_twin edition_3 (nums_bytes ns ∷ []) s,
      length-append (nums_bytes ns) [],
      length_nums ns,
      parts_2,
    )

    pub edition_3_known : edition_of (edition_3_twin ns s) ≡ edition_3
    unfolding edition_of twin file_of
    edition_3_known = refl

    module _ (short : length s + (4 + starting_num_length * bays s) ≤ max_file_length) where
      filled : NoneEmpty (nums_bytes ns ∷ [])
      filled = (omega (arith, length_nums ns, l.has_parts.low), tt)

      few : length (edition_3_twin ns s) ≤ max_file_length
      few = omega (arith, length_edition_3)

      pub edition_3_alike : Alike s (edition_3_twin ns s)
      edition_3_alike = twin_alike s l edition_3 (nums_bytes ns ∷ []) edition_3_known refl filled few (rw is refl) (rw is refl)

      pub edition_3_starting : part (edition_3_twin ns s) starting_part ≡ nums_bytes ns
      edition_3_starting = twin_starting s l edition_3 (nums_bytes ns ∷ []) edition_3_known refl filled few (nums_bytes ns) refl
