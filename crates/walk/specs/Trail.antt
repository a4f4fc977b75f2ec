-- All tries of the walk, in the walk's order, as one list: `all_bad` is its bad words, the count of tries its length.
-- `Tried` says what a try is; proofs/Member.antt that the list holds exactly those, proofs/Rises.antt that it rises.
use Rattle.std.specs.Prelude.{ℕ, zero, suc, ◌≡◌}
use mathlib.Core.List.{List, [], ◌∷◌, ◌++◌, map, reverse_aux, Memᴰ}
use Rattle.walk.specs.Machine.{Machine, Outcome, refused, too_big, goes, breaks}

-- what the search keeps of an outcome: refused for size, bad, or neither
pub data Mark : Type 0 where
  plain : Mark
  sized : Mark
  bad : Mark

abbrev pub mark_of : {C : Type 0} → Outcome C → Mark
mark_of refused = plain
mark_of too_big = sized
mark_of (goes c) = plain
mark_of breaks = bad

-- a try: the schedule with the code tried behind it, and what came of it
pub record Try : Type 0 where
  pub word : List ℕ
  pub mark : Mark

-- a pair of the walk: a permitted unbroken schedule and a real code tried after it
pub data Tried (M : Machine) : M.Conf → List ℕ → Mark → Type 0 where
  one : {c : M.Conf} {k : ℕ} {m : Mark} → Memᴰ k M.codes → mark_of (M.try c k) ≡ m → Tried M c (k ∷ []) m
  deeper : {c d : M.Conf} {k : ℕ} {w : List ℕ} {m : Mark} → M.try c k ≡ goes d → Tried M d w m → Tried M c (k ∷ w) m

-- the try of k in c
abbrev pub try_of : (M : Machine) → M.Conf → ℕ → Try
try_of M c k = record { word = k ∷ []; mark = mark_of (M.try c k) }

-- a try below the step k; one below a schedule, given with its last code first
abbrev pub under : ℕ → Try → Try
under k t = record { word = k ∷ t.word; mark = t.mark }

abbrev pub unders : List ℕ → Try → Try
unders up t = record { word = reverse_aux up t.word; mark = t.mark }

-- what is entered after an outcome: only a permitted step that broke nothing leads on
abbrev pub entered : {C : Type 0} → (C → List Try) → Outcome C → List Try
entered f refused = []
entered f too_big = []
entered f (goes d) = f d
entered f breaks = []

-- the tries from c with the codes left: each code, then all below it, then the codes after it. f gives all below a configuration
abbrev pub across : (M : Machine) → (M.Conf → List Try) → M.Conf → List ℕ → List Try
across M f c [] = []
across M f c (k ∷ ks) = try_of M c k ∷ (map (under k) (entered f (M.try c k)) ++ across M f c ks)

-- all tries of at most n steps from c
unfoldable pub trails : (M : Machine) → ℕ → M.Conf → List Try
trails M zero c = []
trails M (suc n) c = across M (trails M n) c M.codes

-- the bad words of a list of tries, and the number of its tries refused for size
abbrev pub bad_and : Mark → List ℕ → List (List ℕ) → List (List ℕ)
bad_and plain w ws = ws
bad_and sized w ws = ws
bad_and bad w ws = w ∷ ws

abbrev pub bad_in : List Try → List (List ℕ)
bad_in [] = []
bad_in (t ∷ ts) = bad_and t.mark t.word (bad_in ts)

abbrev pub sized_and : Mark → ℕ → ℕ
sized_and plain z = z
sized_and sized z = suc z
sized_and bad z = z

abbrev pub sized_in : List Try → ℕ
sized_in [] = 0
sized_in (t ∷ ts) = sized_and t.mark (sized_in ts)

-- all bad schedules of at most n steps
unfoldable pub all_bad : Machine → ℕ → List (List ℕ)
all_bad M n = bad_in (trails M n M.fresh)
