use mathlib.Core.Path.{◌∙◌, ◌≡◌, ap, subst, subst⁻¹, sym}
use mathlib.Core.Option.{some}
use Prim.Native.Nat.{ℕ}
use native.Mathlib.Omega.{arith}
use Rattle.calculus.specs.Bytes.{Bytes}
use Rattle.calculus.specs.Syntax.{at, thread_of}
use Rattle.calculus.specs.Step.{place}
use Rattle.calculus.specs.Image.{limits_test, nodes_all}
use Rattle.term.specs.Expressions.{term_at}
use Rattle.image_layout.specs.Slice.{offset_at}
use Rattle.image_layout.proofs.Theory.Reading.{has_head}
use Rattle.image.specs.Configuration.{config_of}
use Rattle.term_redex.specs.Places.{place_of, Searchable}
use Rattle.step_rules.specs.Meets.{Deciding}
use Rattle.step_rules.specs.Stepped.{Stepped}
use Rattle.step_rules.proofs.Theory.Found.{found_done, thread_searchable}
use Rattle.step_decide.specs.Decided.{Decided}
use Rattle.image_check.proofs.Theory.Names.{config_parts}
use Rattle.image_check.proofs.Theory.Whole.{whole_sound}
use Rattle.step_look.specs.Looked.{Staying, goes, stays_so}
use Rattle.step_look.proofs.Theory.Writing.{countable}
use Rattle.step_look.proofs.Looking.{by_decision, by_done, by_no_room, by_no_thread, by_room, few_before, no_thread_there, room_is, stepped, thread_is_there}
use Rattle.step_look.proofs.look_at.Goals as goal

pub returns-then-not-is_thread : goal.returns-then-not-is_thread
returns-then-not-is_thread c = stays_so (by_no_thread c.args.image.bytes.now c.args.thread (no_thread_there c.args.image.bytes.now c.args.image.fit c.args.image.stands c.args.thread (sym c.is_thread.ensures ∙ c.if-not-is_thread.true)))

pub offset_at-requires : goal.offset_at-requires
offset_at-requires c =
    let there : at (config_of c.args.image.bytes.now) c.args.thread ≡ some (thread_of (term_at c.args.image.bytes.now (offset_at c.args.image.bytes.now c.args.thread))) = thread_is_there c.args.image.bytes.now c.args.image.fit c.args.image.stands c.args.thread (sym c.is_thread.ensures ∙ c.if-not-is_thread.false) in
    has_head _ (whole_sound _ c.args.image.stands).heads c.args.thread (config_parts c.args.image.bytes.now c.args.thread there).0

pub find_place-requires : goal.find_place-requires
find_place-requires c =
    let there : at (config_of c.args.image.bytes.now) c.args.thread ≡ some (thread_of (term_at c.args.image.bytes.now (offset_at c.args.image.bytes.now c.args.thread))) = thread_is_there c.args.image.bytes.now c.args.image.fit c.args.image.stands c.args.thread (sym c.is_thread.ensures ∙ c.if-not-is_thread.false) in
    subst⁻¹ (Searchable c.args.image.bytes.now) c.offset_at.ensures.0 (thread_searchable c.args.image.bytes.now c.args.image.fit c.args.image.stands c.args.thread there)

pub returns-in_default : goal.returns-in_default
returns-in_default c =
    let there : at (config_of c.args.image.bytes.now) c.args.thread ≡ some (thread_of (term_at c.args.image.bytes.now (offset_at c.args.image.bytes.now c.args.thread))) = thread_is_there c.args.image.bytes.now c.args.image.fit c.args.image.stands c.args.thread (sym c.is_thread.ensures ∙ c.if-not-is_thread.false) in
    stays_so (by_done c.args.image.bytes.now c.args.thread (found_done c.args.image.bytes.now c.args.image.fit c.args.image.stands c.args.thread there (ap (λ (k : ℕ). place_of k (place (term_at c.args.image.bytes.now k))) (sym c.offset_at.ensures.0) ∙ sym c.find_place.ensures ∙ c.in_default.is)))

pub decide-decision-requires : goal.decide-decision-requires
decide-decision-requires c =
    let there : at (config_of c.args.image.bytes.now) c.args.thread ≡ some (thread_of (term_at c.args.image.bytes.now (offset_at c.args.image.bytes.now c.args.thread))) = thread_is_there c.args.image.bytes.now c.args.image.fit c.args.image.stands c.args.thread (sym c.is_thread.ensures ∙ c.if-not-is_thread.false) in
    let deciding : Deciding c.args.image.bytes.now c.args.thread c.in-Some.meeting = record {
      stands = c.args.image.stands;
      expression = _;
      thread = there;
      found = (ap (λ (k : ℕ). place_of k (place (term_at c.args.image.bytes.now k))) (sym c.offset_at.ensures.0) ∙ sym c.find_place.ensures ∙ c.in-Some.is);
    } in
    deciding

pub returns-in_default-decision : goal.returns-in_default-decision
returns-in_default-decision c = stays_so (subst⁻¹ (Staying c.args.image.bytes.now c.args.thread) c.answer_of.ensures (by_decision c.args.image.bytes.now c.args.thread c.decide-decision.ensures c.in_default-decision.not-Goes))

pub size_after-after-requires : goal.size_after-after-requires
size_after-after-requires c =
    let goes_by : Stepped c.args.image.bytes.now c.args.thread c.in-Goes.step = stepped (subst (Decided _ _) c.in-Goes.is c.decide-decision.ensures) in
    let counted : nodes_all (config_of c.args.image.bytes.now) ≡ c.args.image.nodes = c.args.image.counted in
    let b : Bytes c.args.image.bytes.now = c.args.image.fit in
    (countable goes_by b c.args.image.stands, omega (arith, counted, few_before c.args.image.bytes.now b c.args.image.stands))

pub returns-then-not-within_limits : goal.returns-then-not-within_limits
returns-then-not-within_limits c =
    let goes_by : Stepped c.args.image.bytes.now c.args.thread c.in-Goes.step = stepped (subst (Decided _ _) c.in-Goes.is c.decide-decision.ensures) in
    let counted : nodes_all (config_of c.args.image.bytes.now) ≡ c.args.image.nodes = c.args.image.counted in
    let limits : limits_test goes_by.outcome ≡ c.within_limits.result = sym (c.within_limits.ensures ∙ room_is goes_by counted c.size_after-after.ensures) in
    stays_so (by_no_room c.args.image.bytes.now c.args.thread goes_by (limits ∙ c.if-not-within_limits.true))

pub returns : goal.returns
returns c =
    let goes_by : Stepped c.args.image.bytes.now c.args.thread c.in-Goes.step = stepped (subst (Decided _ _) c.in-Goes.is c.decide-decision.ensures) in
    let counted : nodes_all (config_of c.args.image.bytes.now) ≡ c.args.image.nodes = c.args.image.counted in
    let limits : limits_test goes_by.outcome ≡ c.within_limits.result = sym (c.within_limits.ensures ∙ room_is goes_by counted c.size_after-after.ensures) in
    goes (by_room goes_by counted c.size_after-after.ensures (limits ∙ c.if-not-within_limits.false))
