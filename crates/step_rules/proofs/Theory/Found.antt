-- What the search of a thread's expression has found is a meeting of values in that thread.
use Rattle.std.proofs.Common.{◌∙◌, sym, subst, arith, None}
use Rattle.std.specs.Prelude.{◌≡◌, true, List, ℕ, ◌<◌, ◌≤◌}
use Rattle.std.proofs.Math.Path.{ap}
use Rattle.std.proofs.Math.Option.{some}
use Rattle.std.proofs.Math.Decide.{dec_lt}
use Rattle.image.proofs.Theory.Exactly.{length_config}
use Rattle.calculus.specs.Bytes.{Bytes}
use Rattle.calculus.specs.Syntax.{Exp, at, thread_of, sum_in, on_thread}
use Rattle.calculus.specs.Reduction.{Context, plug}
use Rattle.calculus.specs.Names.{count}
use Rattle.calculus.specs.Step.{done, step_of, step_place, place, no_thread, Redex}
use Rattle.calculus.specs.Image.{size}
use Rattle.calculus.proofs.Theory.Expressions.{count_plug}
use Rattle.term.specs.Expressions.{term_at}
use Rattle.term.proofs.Expressions.{Found, found_at}
use Rattle.image_layout.specs.Slice.{names, offset_at}
use Rattle.image.specs.Configuration.{config_of}
use Rattle.image.specs.Stands.{image_stands}
use Rattle.term_redex.specs.declared.Meeting.{Meeting}
use Rattle.term_redex.specs.Places.{place_of, Searchable}
use Rattle.term_redex.proofs.Meetings.{MeetingAt, done_value, meet_met, meeting_stands}
use Rattle.step_rules.specs.Meets.{Deciding, MeetsAt}
use Rattle.step_rules.proofs.Theory.Reading.{rules, thread_stands}

-- what meets, and its context
pub record FoundMeeting (s : List ℕ) (x : ℕ) (m : Meeting) : Type 0 where
  pub context : Context
  pub redex : Exp
  pub is_redex : Redex redex
  pub meets : MeetsAt s x m context is_redex

pub found_meets : {s : List ℕ} {x : ℕ} {m : Meeting} → Bytes s → Deciding s x m → FoundMeeting s x m
unfolding step_of step_place
found_meets {s} {x} {m} b d =
    let e = d.expression in
    let q = thread_stands s b d.stands x e d.thread in
    let met = meet_met (offset_at s x) e m (sym (ap (λ g. place_of (offset_at s x) (place g)) (found_at q.term).term) ∙ d.found) in
    let p = meeting_stands q.term met in
    let F = met.context in
    record {
      context = F;
      redex = met.redex;
      is_redex = met.is_redex;
      meets = record {
        in_bytes = b;
        stands = d.stands;
        thread = d.thread ∙ ap (λ h. some (thread_of h)) p.whole;
        steps = ap (λ c. on_thread c no_thread (λ e. step_place (config_of s) x (place e))) d.thread ∙ ap (step_place (config_of s) x) met.place_is;
        placed = subst (λ h. MeetingAt s (offset_at s x) h m F met.is_redex) p.whole p;
        long = q.long ∙ ap size p.whole;
      };
    }

-- a name that stands there is a name of the image
pub name_there : {s : List ℕ} {x : ℕ} {m : Meeting} {F : Context} {r : Exp} {d : Redex r} → MeetsAt s x m F d → (y : ℕ) → 1 ≤ count y r → y < names s
unfolding count sum_in
name_there {s} {x} {m} {F} {r} M y l = elim (dec_lt y (names s)) [
  | yes p ↦ p
  | no p ↦ absurd (omega (
    arith,
    (rules s M.in_bytes M.stands).names_below x (thread_of (plug F r)) M.thread y (omega (arith, length_config s)),
    count_plug y F r,
  ))
]

-- a search can be asked about a thread, and where it answers that the thread is done, so does the calculus
module _ (s : List ℕ) (b : Bytes s) (stands : image_stands s ≡ true) (x : ℕ) {e : Exp} (h : at (config_of s) x ≡ some (thread_of e)) where
  thread_found : Found s (offset_at s x) e
  thread_found = found_at (thread_stands s b stands x e h).term

  pub thread_searchable : Searchable s (offset_at s x)
  thread_searchable =
      record { good = thread_found.good; closed = rw thread_found.term ((rules s b stands).bound x (thread_of e) h) }

  pub found_done : place_of (offset_at s x) (place (term_at s (offset_at s x))) ≡ None → step_of (config_of s) x ≡ done
  unfolding step_of step_place
  found_done d =
      let (w, p) = done_value (offset_at s x) e ((rules s b stands).bound x (thread_of e) h) (sym (ap (λ g. place_of (offset_at s x) (place g)) thread_found.term) ∙ d) in
      ap (λ c. on_thread c no_thread (λ e. step_place (config_of s) x (place e))) h ∙ ap (step_place (config_of s) x) p
