-- What it means that the machine on labels does as the rules say. A label stands for the term that it denotes in the table
-- (Den of `terms`), and that is all there is between the two.
use Rattle.std.specs.Prelude.{ℕ, ◌<◌, ◌≤◌, ◌≡◌, List, length}
use Rattle.walk.specs.Base.{All}
use Rattle.terms.specs.Base.{Held, held}
use Rattle.terms.specs.Line.{term_at}
use Rattle.terms.specs.Sound.{Sound}
use Rattle.terms.specs.Tree.{Tree, leaf, sealed, applied, joined}
use Rattle.terms.specs.Meaning.{trees, Den}
use Rattle.terms.specs.Promise.{Each, Grows}
use Rattle.model.specs.Records.{action_at, location_at}
use Rattle.model.specs.declared.records.Model.{Model}
use Rattle.state.specs.declared.control.Control.{Control}
use Rattle.rules.specs.Step.{stepped, refused_step}
use Rattle.rules.specs.declared.event.Happening.{Happening}
use Rattle.rules.specs.Reply.{Permitted, Stepped}
use Rattle.law.specs.Out.{Out, ok, refuse}
use Rattle.law.specs.Rules.{State, Made}
use Rattle.law.specs.Meant.{deed_in, bare}

-- every leaf of a term, kind and number, has Q
pub data Leaves (Q : ℕ → ℕ → Type 0) : Tree → Type 0 where
  at : {k a : ℕ} → Q k a → Leaves Q (leaf k a)
  in_sealed : {k n : ℕ} {x : Tree} → Leaves Q x → Leaves Q (sealed k x n)
  in_applied : {k f : ℕ} {x : Tree} → Leaves Q x → Leaves Q (applied k f x)
  in_joined : {k : ℕ} {x y : Tree} → Leaves Q x → Leaves Q y → Leaves Q (joined k x y)

-- a code term (8) names a program
abbrev pub Named : Model → ℕ → ℕ → Type 0
Named m k a = k ≡ 8 → a < m.programs

-- The configuration of table l and control s stands for the state d: the table is sound, begins with the model's, and
-- holds exactly the terms known, in their order; threads, locks and counters are the same; each value and each variable is
-- the label of its term.
pub record Like (m : Model) (l : List ℕ) (s : Control) (d : State) : Type 0 where
  pub table : Grows m.lines m.count l s.count
  pub known : trees l s.count ≡ d.known
  pub frame : s.frame ≡ d.config.frame
  pub values : Each (Den l s.count) s.values d.config.values
  pub vars : Each (Den l s.count) s.vars d.config.vars
  -- the number of the next nonce fits its type, and code terms name programs
  pub nonce : s.frame.nonce < 65536
  pub codes : All (Leaves (Named m)) d.known

-- the step that the machine made, with event h, is the step r of the rules: the configurations after it stand for the
-- same, the events are the same but for their labels, and these are the labels of the rules' terms
pub record LikeMade (m : Model) (l : List ℕ) (s : Control) (h : Happening) (r : Made) : Type 0 where
  pub like : Like m l s r.state
  pub event : bare h ≡ r.happening
  pub x : Den l s.count (deed_in h.event).x r.x
  pub y : Den l s.count (deed_in h.event).y r.y
  pub result : Den l s.count (deed_in h.event).result r.result

-- What the machine answers from table l and control s is what the rules answer: both permit the step and make the same of
-- it, or both refuse it by the same number, and the machine leaves table and control as they came.
pub data Exactly (m : Model) (l : List ℕ) (s : Control) : Held Stepped → Out Made → Type 0 where
  both : {t : List ℕ} {u : Control} {h : Happening} {r : Made} → LikeMade m t u h r → Exactly m l s (held (stepped (Permitted h) u) t) (ok r)
  neither : {n : ℕ} → Exactly m l s (held (refused_step n s) l) (refuse n)

-- the same, except where the machine says that something is too big (8 or 9)
pub data Follows (m : Model) (l : List ℕ) (s : Control) : Held Stepped → Out Made → Type 0 where
  both : {t : List ℕ} {u : Control} {h : Happening} {r : Made} → LikeMade m t u h r → Follows m l s (held (stepped (Permitted h) u) t) (ok r)
  neither : {n : ℕ} → Follows m l s (held (refused_step n s) l) (refuse n)
  too_deep_lem : {o : Out Made} → Follows m l s (held (refused_step 8 s) l) o
  too_many : {o : Out Made} → Follows m l s (held (refused_step 9 s) l) o

-- two answers of the rules: the same, unless the first is a refusal for size
pub data Near {A : Type 0} : Out A → Out A → Type 0 where
  same : {o : Out A} → Near o o
  too_deep_lem : {o : Out A} → Near (refuse 8) o
  too_many : {o : Out A} → Near (refuse 9) o

-- What the theorem asks of a model; a sound one has it. The actions and the locations are those that can be read at any
-- place: past a program's end and past the number of locations all is zero.
pub record Fine (m : Model) : Type 0 where
  pub table : Sound m.lines m.count
  pub long : length m.lines ≡ 512
  pub first : (p k : ℕ) → (action_at m.actions p k).x < m.count
  pub second : (p k : ℕ) → (action_at m.actions p k).y < m.count
  -- "function a (0 to 255)"
  pub function : (p k : ℕ) → (action_at m.actions p k).op ≡ 14 → (action_at m.actions p k).loc < 256
  pub values : (i : ℕ) → (location_at m.locations i).value < m.count
  pub codes : (i : ℕ) → i < m.count → (term_at m.lines i).kind ≡ 8 → (term_at m.lines i).a < m.programs
  pub programs : m.programs ≤ 32
