-- A slice of bytes stands exactly when it is the image of a configuration with owners that keep every rule and limit, and of one only.
use Rattle.std.proofs.Common.{◌∙◌, ap₂, arith}
use Rattle.std.specs.Prelude.{◌≡◌, refl, ◌↔◌, Bool, ◌||◌, List, [], ◌∷◌, map, ◌<◌, suc, ℕ, drop, length}
use Rattle.std.proofs.Math.Path.{ap, sym}
use Rattle.std.proofs.Math.Bool.{false, true}
use Rattle.std.proofs.Math.Option.{some}
use Rattle.std.proofs.Math.Decide.{ℕ_discrete}
use Rattle.std.proofs.Math.Dec.{leb}
use Rattle.std.proofs.lemmas.List.{length-map}
use Rattle.calculus.specs.Bytes.{Bytes}
use Rattle.calculus.specs.Lists.{tabulate}
use Rattle.calculus.specs.Limits.{max_bays}
use Rattle.calculus.specs.Syntax.{Component, thread_of, holds, open_for, used, awaited, Config, at, In}
use Rattle.calculus.specs.Owners.{Owners, Owned, owner, OwnersRule}
use Rattle.calculus.specs.Image.{ImageRule, image_test}
use Rattle.calculus.specs.Kinds.{open_handle_kind, future_kind}
use Rattle.calculus.proofs.Theory.Tests.{and_true, and_parts, leb_sound}
use Rattle.calculus.proofs.Theory.Lists.{at_below, at_bound, get_d_at}
use Rattle.calculus.proofs.Theory.Tabulate.{each_below_sound, each_below_complete, length_tabulate, tabulate_at, tabulate_is, tabulate_parts}
use Rattle.calculus.proofs.Theory.ImageTest.{image_test_iff}
use Rattle.calculus.proofs.Theory.Images.{Kept}
use Rattle.term.specs.Expressions.{FitsBytes}
use Rattle.term.specs.Reader.{one_term, read_term}
use Rattle.term.proofs.Terms.{bytes_drop, bytes_take}
use Rattle.term.proofs.Expressions.{one_term_sound, one_term_complete}
use Rattle.image_layout.specs.Encoded.{Encoded, image_bytes}
use Rattle.image_layout.specs.Slice.{names, kind_at, companion_at, owner_at, offset_at, length_at, expression_at, encoded_at, encoded_all}
use Rattle.image_layout.specs.Layout.{heads_stand, EachHead}
use Rattle.image_layout.specs.Readable.{HasOwner}
use Rattle.image_layout.proofs.Theory.Reading.{has_head}
use Rattle.image_layout.proofs.Theory.ReadBack.{names_read, component_read}
use Rattle.image_layout.proofs.Theory.Exactly.{exactly, image_stands as layout_stands, one_reading}
use Rattle.image_layout.proofs.Theory.Slice.{encoded_kind, encoded_companion, encoded_there, owner_of_open, owner_of_other}
use Rattle.image.proofs.Theory.Maps.{map_at}
use Rattle.image.specs.Configuration.{encode, encode_all, image_of, decode, config_of, owners_of, owned_of}
use Rattle.image.specs.Stands.{terms_stand, image_stands}
use Rattle.image.proofs.Theory.Components.{decode_encode, encode_rule, Said, encode_decode, decode_fits, fits_writable, writable_fits, length_encode_all, at_encode_all, encode_all_at, encode_all_is}

-- only an open handle has the kind of one
only_open : (c : Component) (owner : ℕ) → (encode c owner).kind ≡ open_handle_kind → (y : ℕ) × (c ≡ open_for y)
unfolding encode
only_open (thread_of e) owner q = absurd (omega (arith, q))
only_open (holds v) owner q = absurd (omega (arith, q))
only_open (open_for y) owner q = (y, refl)
only_open used owner q = absurd (omega (arith, q))
only_open awaited owner q = absurd (omega (arith, q))

-- a slice says as many components as names
pub length_config : (s : List ℕ) → length (config_of s) ≡ names s
unfolding config_of encoded_all
length_config s = length-map (encoded_all s) decode ∙ length_tabulate (names s) (encoded_at s)

-- and the owner of each
pub owner_said : (s : List ℕ) (k : ℕ) → k < names s → owner (owners_of s) k ≡ owner_at s k
unfolding owners_of
owner_said s k l = get_d_at (tabulate (names s) (owner_at s)) k (tabulate_at (names s) (owner_at s) k l)

-- from the slice to what it says
module _ (s : List ℕ) (b : Bytes s) (stands : image_stands s ≡ true) where
  heads_do : heads_stand s ≡ true
  unfolding image_stands
  heads_do = (and_parts (heads_stand s) _ stands).0

  terms_do : terms_stand s ≡ true
  unfolding image_stands
  terms_do = (and_parts (terms_stand s) _ (and_parts (heads_stand s) _ stands).1).0

  pub image_tested : image_test (config_of s) ≡ true
  unfolding image_stands
  image_tested = (and_parts (terms_stand s) _ (and_parts (heads_stand s) _ stands).1).1

  rules : ImageRule (config_of s)
  rules = (image_test_iff (config_of s)).0 image_tested

  pub heads_read : EachHead (encoded_all s) × (image_bytes (encoded_all s) ≡ s)
  heads_read = let (E, h, p) = (exactly s b).0 heads_do in let e = one_reading s E p in (rw e at h, ap image_bytes (sym e) ∙ p)

  -- each expression is one term
  pub said : (k : ℕ) (x : Encoded) → at (encoded_all s) k ≡ some x → Said x
  unfolding encoded_all encoded_at expression_at terms_stand
  said k x h l =
      let (below, e) = tabulate_parts (names s) (encoded_at s) k h in
      let t = or_right (leb open_handle_kind (kind_at s k)) (one_term (read_term (expression_at s k)))
      (each_below_sound (names s) (λ k. leb open_handle_kind (kind_at s k) || one_term (read_term (expression_at s k))) terms_do k below)
      (λ g. let n = leb_sound open_handle_kind (kind_at s k) g in let q : x.kind ≡ kind_at s k = ap (λ (y : Encoded). y.kind) e in omega arith) in
      rw e (one_term_sound (expression_at s k) (bytes_take (length_at s k) (drop (offset_at s k) s) (bytes_drop (offset_at s k) s b)) t)
    where
      or_right : (a c : Bool) → (a || c) ≡ true → ¬ (a ≡ true) → c ≡ true
      or_right true c e n = absurd (n refl)
      or_right false c e n = e

  tabulated : (k : ℕ) (x : Encoded) → at (encoded_all s) k ≡ some x → (k < names s) × (x ≡ encoded_at s k)
  unfolding encoded_all
  tabulated k x g = tabulate_parts (names s) (encoded_at s) k g

  -- a component with its owner is what its head and its expression say
  pub encoded_is : (k : ℕ) {c : Component} → at (config_of s) k ≡ some c → encode c (owner_at s k) ≡ encoded_at s k
  unfolding config_of
  encoded_is k {c} h =
      let (x, g, e) = map_at decode (encoded_all s) k h in
      let (below, is) = tabulated k x g in
      let r = heads_read.0 k x g in
      rw (e, is) (encode_decode (encoded_at s k) (owner_at s k) (rw is at r) (rw is at (said k x g)) (λ n. encoded_companion s k ∙ sym (owner_of_other s k (λ q. n (encoded_kind s k ∙ q)))))

  pub written_back : encode_all (config_of s) (owners_of s) ≡ encoded_all s
  unfolding encoded_all
  written_back = sym (encode_all_is (names s) (encoded_at s) (config_of s) (owners_of s) (length_config s)
      (λ k c h. sym (encoded_is k h) ∙ ap (encode c) (sym (owner_said s k (omega (arith, at_bound (config_of s) k h, length_config s))))))

  pub is_image : s ≡ image_of (owned_of s)
  unfolding image_of
  is_image = sym heads_read.1 ∙ ap image_bytes (sym written_back)

  pub config_fits : (k : ℕ) (c : Component) → at (config_of s) k ≡ some c → In FitsBytes c
  unfolding config_of
  config_fits k c h = let (x, g, e) = map_at decode (encoded_all s) k h in rw e (decode_fits x (said k x g))

  -- what the head of a component says
  pub kind_is : (k : ℕ) {c : Component} → at (config_of s) k ≡ some c → kind_at s k ≡ (encode c (owner_at s k)).kind
  kind_is k h = sym (encoded_kind s k) ∙ ap (λ (x : Encoded). x.kind) (sym (encoded_is k h))

  pub companion_is : (k : ℕ) {c : Component} → at (config_of s) k ≡ some c → companion_at s k ≡ (encode c (owner_at s k)).companion
  companion_is k h = sym (encoded_companion s k) ∙ ap (λ (x : Encoded). x.companion) (sym (encoded_is k h))

  -- T-08: a companion that is no open handle's is below 16
  companion_below : (k : ℕ) → k < names s → ¬ (kind_at s k ≡ open_handle_kind) → companion_at s k < max_bays
  companion_below k l n =
      let r = heads_read.0 k (encoded_at s k) (encoded_there s k l) in
      rw (sym (encoded_companion s k)) (r.companions (λ e. n (sym (encoded_kind s k) ∙ e)))

  future_is : (z y : ℕ) → at (config_of s) z ≡ some (open_for y) → companion_at s z ≡ y
  unfolding encode
  future_is z y h = companion_is z h

  -- "an open handle has the owner of its future"
  pub handle_owner : (z y : ℕ) → at (config_of s) z ≡ some (open_for y) → owner_at s z ≡ owner_at s y
  unfolding encode
  handle_owner z y h =
      let g = rules.companions z y h in
      let k : kind_at s y ≡ future_kind = kind_is y g in
      owner_of_open s z (kind_is z h) ∙ ap (companion_at s) (companion_is z h) ∙ sym (owner_of_other s y (λ e. omega (arith, k, e)))

  there : (k : ℕ) {c : Component} → at (config_of s) k ≡ some c → k < names s
  there k h = omega (arith, at_bound (config_of s) k h, length_config s)

  -- every owner is below 16
  plain_below : (k : ℕ) → k < names s → ¬ (kind_at s k ≡ open_handle_kind) → owner_at s k < max_bays
  plain_below k l n = rw (owner_of_other s k n) (companion_below k l n)

  owner_below : (k : ℕ) (c : Component) → at (config_of s) k ≡ some c → owner_at s k < max_bays
  unfolding encode
  owner_below k c h = elim (ℕ_discrete (kind_at s k) open_handle_kind) [
    | no n ↦ plain_below k (there k h) n
    | yes e ↦
        let (y, q) = only_open c (owner_at s k) (sym (kind_is k h) ∙ e) in
        let h' : at (config_of s) k ≡ some (open_for y) = h ∙ ap some q in
        let g = rules.companions k y h' in
        rw (handle_owner k y h') (plain_below y (there y g) (λ e. omega (arith, e, kind_is y g)))
  ]

  -- each owner can be read
  pub has_owner : (k : ℕ) → k < names s → HasOwner s k
  has_owner k l = record {
    own = has_head s heads_do k l;
    future = λ e.
        let (c, h) = at_below (config_of s) k (omega (arith, length_config s)) in
        let (y, q) = only_open c (owner_at s k) (sym (kind_is k h) ∙ e) in
        let h' : at (config_of s) k ≡ some (open_for y) = h ∙ ap some q in
        rw (future_is k y h') (has_head s heads_do y (there y (rules.companions k y h')));
  }

  owners_read : OwnersRule max_bays (owned_of s)
  unfolding owners_of
  owners_read = record {
    sizes = length_tabulate (names s) (owner_at s) ∙ sym (length_config s);
    below = λ x l. let (c, h) = at_below (config_of s) x l in rw (owner_said s x (there x h)) (owner_below x c h);
    handles = λ z y h. owner_said s z (there z h) ∙ handle_owner z y h ∙ sym (owner_said s y (there y (rules.companions z y h)));
  }

  -- what it says keeps every rule, and can be written
  pub kept_read : Kept max_bays (owned_of s)
  kept_read = record { keeps = rules; writable = λ k c h. fits_writable c (config_fits k c h); owns = owners_read }

-- a component that was written has one term, or none
kind_and_term : (kind : ℕ) (expression : List ℕ) (c : Component) (owner : ℕ) → In FitsBytes c → kind ≡ (encode c owner).kind → expression ≡ (encode c owner).expression →
    (leb open_handle_kind kind || one_term (read_term expression)) ≡ true
unfolding encode
kind_and_term kind expression (thread_of e) owner f p q = rw (p, q) (one_term_complete e f)
kind_and_term kind expression (holds e) owner f p q = rw (p, q) (one_term_complete e f)
kind_and_term kind expression (open_for y) owner f p q = rw p refl
kind_and_term kind expression used owner f p q = rw p refl
kind_and_term kind expression awaited owner f p q = rw p refl

-- components that were written are read
decoded : (C : Config) (O : Owners) → ((x : ℕ) (c : Component) → at C x ≡ some c → In FitsBytes c) → map decode (encode_all C O) ≡ C
unfolding encode_all
decoded [] O f = refl
decoded (c ∷ C) O f = ap₂ (λ (x : Component) (l : Config). x ∷ l) (decode_encode c (owner O 0) (f 0 c refl)) (decoded C (drop 1 O) (λ x. f (suc x)))

-- what an image says of each name
module _ (I : Owned) where
  pub names_are : names (image_of I) ≡ length I.config
  unfolding image_of
  names_are = names_read (encode_all I.config I.owners) ∙ length_encode_all I.config I.owners

  pub component_is : (x : ℕ) {c : Component} → at I.config x ≡ some c → encoded_at (image_of I) x ≡ encode c (owner I.owners x)
  unfolding image_of
  component_is x {c} h = component_read (encode_all I.config I.owners) x (encode c (owner I.owners x)) (at_encode_all I.config I.owners x h)

  pub kind_written : (x : ℕ) {c : Component} → at I.config x ≡ some c → kind_at (image_of I) x ≡ (encode c (owner I.owners x)).kind
  kind_written x h = sym (encoded_kind (image_of I) x) ∙ ap (λ (e : Encoded). e.kind) (component_is x h)

  pub companion_written : (x : ℕ) {c : Component} → at I.config x ≡ some c → companion_at (image_of I) x ≡ (encode c (owner I.owners x)).companion
  companion_written x h = sym (encoded_companion (image_of I) x) ∙ ap (λ (e : Encoded). e.companion) (component_is x h)

-- T-08: the owners are told by the bytes, where the companion of an open handle is a future
module _ (I : Owned) {b : ℕ} (o : OwnersRule b I) (companions : (z y : ℕ) → at I.config z ≡ some (open_for y) → at I.config y ≡ some awaited) where
  pub owner_again : (x : ℕ) (c : Component) → at I.config x ≡ some c → owner_at (image_of I) x ≡ owner I.owners x
  unfolding encode
  owner_again x (thread_of e) h = owner_of_other (image_of I) x (λ q. omega (arith, q, kind_written I x h)) ∙ companion_written I x h
  owner_again x (holds v) h = owner_of_other (image_of I) x (λ q. omega (arith, q, kind_written I x h)) ∙ companion_written I x h
  owner_again x (open_for y) h =
      owner_of_open (image_of I) x (kind_written I x h)
      ∙ ap (companion_at (image_of I)) (companion_written I x h)
      ∙ companion_written I y (companions x y h)
      ∙ sym (o.handles x y h)
  owner_again x used h = owner_of_other (image_of I) x (λ q. omega (arith, q, kind_written I x h)) ∙ companion_written I x h
  owner_again x awaited h = owner_of_other (image_of I) x (λ q. omega (arith, q, kind_written I x h)) ∙ companion_written I x h

-- from a configuration with its owners to the slice
module _ (I : Owned) (k : Kept max_bays I) where
  pub each_fits : (x : ℕ) (c : Component) → at I.config x ≡ some c → In FitsBytes c
  each_fits x c h = writable_fits c (k.writable x c h) (λ n l. k.keeps.names_below x c h n (omega (arith, k.keeps.limits.few_names)))

  pub read_again : config_of (image_of I) ≡ I.config
  unfolding config_of image_of
  read_again =
      ap (map decode) (sym (one_reading (image_bytes (encode_all I.config I.owners)) (encode_all I.config I.owners) refl))
      ∙ decoded I.config I.owners each_fits

  -- T-08: and so are the owners
  pub owners_again : owners_of (image_of I) ≡ I.owners
  unfolding owners_of
  owners_again = tabulate_is (names (image_of I)) (owner_at (image_of I)) I.owners (k.owns.sizes ∙ sym (names_are I)) λ x o h.
      let (c, g) = at_below I.config x (omega (arith, at_bound I.owners x h, k.owns.sizes)) in
      owner_again I k.owns k.keeps.companions x c g ∙ get_d_at I.owners x h

  pub owned_again : owned_of (image_of I) ≡ I
  owned_again = λ i. record { owners = owners_again i; config = read_again i }

  heads_written : EachHead (encode_all I.config I.owners)
  heads_written x e h =
      let (c, g, q) = encode_all_at I.config I.owners x h in
      rw q (encode_rule c (owner I.owners x) (k.owns.below x (at_bound I.config x g)))

  terms_written : terms_stand (image_of I) ≡ true
  unfolding terms_stand encoded_at
  terms_written = each_below_complete (names (image_of I)) _ λ x l.
      let (c, h) = at_below I.config x (omega (arith, names_are I)) in
      let e = component_is I x h in
      kind_and_term _ _ c (owner I.owners x) (each_fits x c h) (ap (λ (e : Encoded). e.kind) e) (ap (λ (e : Encoded). e.expression) e)

  pub image_written : image_stands (image_of I) ≡ true
  unfolding image_stands image_of
  image_written = and_true (layout_stands (encode_all I.config I.owners) heads_written) (and_true terms_written (rw read_again ((image_test_iff I.config).1 k.keeps)))

-- document 01, "The image", and T-08: a slice keeps every rule and limit exactly when it is the image of a configuration with owners that keep them
pub image_exactly : (s : List ℕ) → Bytes s → (image_stands s ≡ true) ↔ ((I : Owned) × (s ≡ image_of I) × Kept max_bays I)
image_exactly s b = (λ stands. (owned_of s, is_image s b stands, kept_read s b stands), λ (I, e, k). ap image_stands e ∙ image_written I k)

-- and of one only
pub one_image : (I J : Owned) → Kept max_bays I → Kept max_bays J → image_of I ≡ image_of J → I ≡ J
one_image I J k l e = sym (owned_again I k) ∙ ap owned_of e ∙ owned_again J l
