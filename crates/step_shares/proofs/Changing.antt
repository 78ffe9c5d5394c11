-- What a step brings to bays and takes from them.
use mathlib.Core.Path.{◌∙◌, ◌≡◌, ap, refl, subst, sym}
use mathlib.Core.List.{List}
use Prim.Native.Nat.{◌+◌, ◌-◌, ◌≤◌, ℕ}
use native.Mathlib.Omega.{arith}
use lib.ListN.{length}
use Rattle.calculus.specs.Limits.{max_names, max_nodes}
use Rattle.calculus.specs.Owners.{Owned, grown, owner}
use Rattle.calculus.specs.Syntax.{Config}
use Rattle.calculus.specs.Image.{nodes_all}
use Rattle.calculus.proofs.Theory.BaySums.{bay_names}
use Rattle.calculus.proofs.Theory.ImageTest.{limits_test_iff}
use Rattle.term_redex.specs.declared.Meeting.{Meeting}
use Rattle.image_layout.specs.Slice.{names, owner_at}
use Rattle.image.specs.Configuration.{config_of, owned_of, owners_of}
use Rattle.image.proofs.Theory.Exactly.{length_config, owner_said}
use Rattle.step_rules.specs.declared.Carried.{Carried}
use Rattle.step_rules.specs.declared.Move.{Move}
use Rattle.step_rules.specs.declared.Move.TheVariants.{Beta, ThreadNew, FutureDeref, HandleNew, HandleBind, CellNew, CellExch, CasePair, CaseList}
use Rattle.step_rules.specs.declared.Step.{Step}
use Rattle.step_rules.specs.Effects.{carried_of}
use Rattle.step_rules.specs.Moves.{carried, names_after}
use Rattle.step_rules.specs.Stepped.{Counted, Has, Movable}
use Rattle.step_rules.proofs.Theory.Meeting.{length_owners}
use Rattle.step_room.specs.declared.Size.{Size}
use Rattle.step_look.specs.declared.Going.{Going}
use Rattle.step_look.specs.Looked.{Goes}
use Rattle.step_shares.specs.declared.Flow.{Flow}
use Rattle.step_look.specs.Leaving.{left_by, outcome_from}
use Rattle.step_shares.specs.Tallies.{Changed, Few, names_to, nodes_from, nodes_to}

-- so much is carried
abbrev pub carry : ℕ → ℕ → ℕ → Carried
carry name gained lost = record { name = name; gained = gained; lost = lost }

-- what is carried is no larger than an image may be
small_by : (s : List ℕ) (x : ℕ) (m : Meeting) (by : Move) → Counted s m.second → Has s m by → ((carried_of s x m by).gained ≤ max_nodes) × ((carried_of s x m by).lost ≤ max_nodes)
unfolding carried_of
small_by s x m Beta c h = (omega arith, omega arith)
small_by s x m ThreadNew c h = (omega arith, omega arith)
small_by s x m (FutureDeref from to) c h = (omega arith, omega arith)
small_by s x m HandleNew c h = (omega arith, omega arith)
small_by s x m (HandleBind handle future) c h = (c.few, omega arith)
small_by s x m CellNew c h = (omega arith, omega arith)
small_by s x m (CellExch cell from to) c h = (c.few, h.0.few)
small_by s x m (CasePair rest) c h = (omega arith, omega arith)
small_by s x m (CaseList rest) c h = (omega arith, omega arith)

pub small : {s : List ℕ} {step : Step} → Movable s step → ((carried s step).gained ≤ max_nodes) × ((carried s step).lost ≤ max_nodes)
small {s} {step} w = small_by s step.thread step.meeting step.by w.last w.has

module _ {s : List ℕ} {n : ℕ} {going : Going} (all : nodes_all (config_of s) ≡ n) (g : Goes s going.step.thread going) where
  abbrev step : Step
  step = going.step

  abbrev after : Size
  after = going.after

  abbrev x : ℕ
  x = step.thread

  abbrev C' : Config
  C' = g.stepped.outcome

  -- what a step leaves is what the rule makes
  pub left_is : left_by s x ≡ grown (owned_of s) x C'
  unfolding outcome_from
  left_is = let e = g.stepped.steps in ap (λ (C : Config). grown (owned_of s) x C) (rw e refl)

  pub names_then : after.names ≡ length C'
  names_then = g.handed.names ∙ sym g.stepped.named

  pub no_fewer : names s ≤ after.names
  unfolding names_after
  no_fewer = omega (arith, g.handed.names)

  pub few_after : (after.names ≤ max_names) × (after.nodes ≤ max_nodes)
  few_after = let l = (limits_test_iff C').0 g.fits in (omega (arith, names_then, l.few_names), omega (arith, g.counted, l.few_nodes))

  -- how each bay changes, in numbers
  pub changed_to : {own other new come gone : ℕ} → own ≡ owner (owners_of s) x → other ≡ owner (owners_of s) (carried s step).name → new ≡ length C' - length (config_of s) →
      come ≡ nodes_all C' + (carried s step).lost → gone ≡ nodes_all (config_of s) + (carried s step).gained →
      Changed (owned_of s) (grown (owned_of s) x C') (record { own = own; new = new; come = come; gone = gone; other = other; gained = (carried s step).gained; lost = (carried s step).lost })
  unfolding names_to nodes_to nodes_from
  changed_to o o' new_is come_is gone_is =
      let long : length (config_of s) ≡ length (owners_of s) = length_config s ∙ sym (length_owners s) in
      record {
        names = λ k. rw (o, new_is) (bay_names k (owners_of s) x (config_of s) C' long (omega (arith, names_then, no_fewer, length_config s)));
        nodes = λ k. rw (o, o', come_is, gone_is) (g.stepped.carries.bays k);
      }

  -- as it is counted
  abbrev with : ℕ → ℕ → ℕ → Carried → Flow
  with own other old c = record { own = own; new = after.names - old; come = after.nodes + c.lost; gone = n + c.gained; other = other; gained = c.gained; lost = c.lost }

  pub changed : nodes_all (config_of s) ≤ max_nodes → {c : Carried} → c ≡ carried s step → {own other old : ℕ} → own ≡ owner_at s x → other ≡ owner_at s c.name → old ≡ names s →
      Changed (owned_of s) (left_by s x) (with own other old c) × Few (with own other old c)
  changed few {c} is {own} {other} {old} own_is other_is old_is =
      let S = g.stepped in
      let o : own ≡ owner (owners_of s) x = own_is ∙ sym (owner_said s x S.movable.thread_below) in
      let o' : other ≡ owner (owners_of s) (carried s step).name =
      other_is ∙ ap (λ (d : Carried). owner_at s d.name) is ∙ sym (owner_said s (carried s step).name S.carries.there) in
      let fits = small S.movable in
      let then : Changed (owned_of s) (grown (owned_of s) x C') (with own other old (carried s step)) =
      changed_to o o' (omega (arith, names_then, old_is, length_config s)) (omega (arith, g.counted)) (omega (arith, all)) in
      subst (λ (d : Carried). Changed (owned_of s) (left_by s x) (with own other old d) × Few (with own other old d)) (sym is) (
        subst (λ (I' : Owned). Changed (owned_of s) I' (with own other old (carried s step))) (sym left_is) then,
        record {
          new = omega (arith, few_after.0);
          come = omega (arith, few_after.1, fits.1);
          gone = omega (arith, few, all, fits.0);
          gained = fits.0;
          lost = fits.1;
        },
      )
