-- The theorems to cite. The machine's step on labels is the rules with limits, from every sound configuration of a sound
-- model, as one equation; and it follows the rules without limits, except where it says 8 or 9.
use Prim.Native.Nat.{ℕ}
use mathlib.Core.Path.{◌≡◌, refl, sym, ap, ap₂, subst}
use mathlib.Core.Bool.{true, false}
use mathlib.Core.List.{List, [], ◌∷◌, map}
use lib.ListN.{length}
use Rattle.terms.specs.Base.{Held}
use Rattle.terms.specs.Tree.{Tree}
use Rattle.terms.specs.Meaning.{trees, tree_of, Den}
use Rattle.terms.specs.Promise.{Each}
use Rattle.model.specs.declared.records.Model.{Model}
use Rattle.state.specs.Control.{fresh_control}
use Rattle.state.specs.declared.control.Control.{Control}
use Rattle.rules.specs.Step.{step_on}
use Rattle.rules.specs.declared.event.Happening.{Happening}
use Rattle.rules.specs.Reply.{Stepped}
use Rattle.audit.specs.Sound.{SoundModel}
use Rattle.audit.specs.Configuration.{sound_control}
use Rattle.law.specs.Out.{Out, ok}
use Rattle.rules.specs.Made.{layout_of}
use Rattle.law.specs.Rules.{State, Made, fresh_state, step_r}
use Rattle.law.specs.Runs.{state_after, run_rules, run_labels}
use Rattle.law.specs.Meant.{Sized, meant, deed_in, bare, meant_made, answer}
use Rattle.law.specs.Like.{Like, LikeMade, Exactly, both, neither, Near, Fine}
use Rattle.law.proofs.Exact.{steps_exactly}
use Rattle.law.proofs.Near.{free}
use Rattle.law.proofs.Fine.{sound_fine}
use Rattle.law.proofs.Stands.{fresh_like, sound_like}

-- labels beside their terms: the terms are what the labels denote
each_is : {l : List ℕ} {c : ℕ} {vs : List ℕ} {ws : List Tree} → Each (Den l c) vs ws → map (tree_of l c) vs ≡ ws
each_is Each.none = refl
each_is (Each.one d p) = ap₂ (λ (x : Tree) (r : List Tree). x ∷ r) d.is (each_is p)

-- a configuration stands for one state alone
pub like_one : {m : Model} {l : List ℕ} {s : Control} {d : State} → Like m l s d → meant l s ≡ d
unfolding meant
like_one {m} {l} {s} {d} k =
    let known : trees l s.count ≡ d.known = k.known in
    let frame : s.frame ≡ d.config.frame = k.frame in
    let values : map (tree_of l s.count) s.values ≡ d.config.values = each_is k.values in
    let vars : map (tree_of l s.count) s.vars ≡ d.config.vars = each_is k.vars in
    λ i. record { known = known i; config = record { frame = frame i; values = values i; vars = vars i } }

made_one : {m : Model} {l : List ℕ} {s : Control} {h : Happening} {r : Made} → LikeMade m l s h r → meant_made l s h ≡ r
unfolding meant_made
made_one {m} {l} {s} {h} {r} k =
    let state : meant l s ≡ r.state = like_one k.like in
    let event : bare h ≡ r.happening = k.event in
    let x : tree_of l s.count (deed_in h.event).x ≡ r.x = k.x.is in
    let y : tree_of l s.count (deed_in h.event).y ≡ r.y = k.y.is in
    let result : tree_of l s.count (deed_in h.event).result ≡ r.result = k.result.is in
    λ i. record { state = state i; happening = event i; x = x i; y = y i; result = result i }

pub exactly_answer : {m : Model} {l : List ℕ} {s : Control} {w : Held Stepped} {o : Out Made} → Exactly m l s w o → answer w ≡ o
unfolding answer
exactly_answer (both k) = ap (λ (r : Made). ok r) (made_one k)
exactly_answer neither = refl

module _ {m : Model} {l : List ℕ} {s : Control} (model : SoundModel m) (size : Sized m l s) (sound : sound_control m l s ≡ true) (code : ℕ) where
  pub sound_exactly : Exactly m l s (step_on l s (layout_of m) m.machine_count code) (step_r true m (meant l s) code)
  sound_exactly = steps_exactly (sound_fine model size.lines) (sound_like size sound) code

  -- the machine's step means the rules' step: the same refusal, or the same event and the same state after it
  pub step_is_rules : answer (step_on l s (layout_of m) m.machine_count code) ≡ step_r true m (meant l s) code
  step_is_rules = exactly_answer sound_exactly

  -- M5: it is the step of the rules without limits too, unless it is refused by 8 or 9
  pub step_near_rules : Near (answer (step_on l s (layout_of m) m.machine_count code)) (step_r false m (meant l s) code)
  step_near_rules = subst (λ (o : Out Made). Near o (step_r false m (meant l s) code)) (sym step_is_rules) (free m (meant l s) code)

-- the fresh configuration means the fresh state
pub fresh_is_rules : {m : Model} → SoundModel m → length m.lines ≡ 512 → meant m.lines (fresh_control m) ≡ fresh_state m
fresh_is_rules model long = like_one (fresh_like model long)

-- a run, from any configuration that stands for a state
after_exact : {m : Model} {l : List ℕ} {s : Control} {d : State} {w : Held Stepped} {o : Out Made} → Like m l s d → Exactly m l s w o
    → Like m w.table w.out.control (state_after o d)
after_exact k (both h) = h.like
after_exact k neither = k

run_like : {m : Model} → Fine m → (ks : List ℕ) {l : List ℕ} {s : Control} {d : State} → Like m l s d → map answer (run_labels m l s ks) ≡ run_rules true m d ks
unfolding run_labels run_rules
run_like fine [] k = refl
run_like {m} fine (c ∷ ks) k =
    let e = steps_exactly fine k c in
    ap₂ (λ (o : Out Made) (r : List (Out Made)). o ∷ r) (exactly_answer e) (run_like fine ks (after_exact k e))

-- every answer of a run from the fresh configuration means the answer of the rules
pub run_is_rules : {m : Model} → SoundModel m → length m.lines ≡ 512 → (ks : List ℕ)
    → map answer (run_labels m m.lines (fresh_control m) ks) ≡ run_rules true m (fresh_state m) ks
run_is_rules model long ks = run_like (sound_fine model long) ks (fresh_like model long)

-- and so from any sound configuration
pub sound_run_is_rules : {m : Model} {l : List ℕ} {s : Control} → SoundModel m → Sized m l s → sound_control m l s ≡ true → (ks : List ℕ)
    → map answer (run_labels m l s ks) ≡ run_rules true m (meant l s) ks
sound_run_is_rules model size sound ks = run_like (sound_fine model size.lines) ks (sound_like size sound)
