-- What the code answers is fixed by what the definitions say of it: no two answers read alike.
use Prim.Native.Nat.{ℕ}
use mathlib.Core.Path.{◌≡◌, refl, sym, ap, ◌∙◌}
use Rattle.std.specs.Prelude.{Option, Some, None, Result, Ok, Err}
use Rattle.lines.specs.Field.{Field, More, Last, Bad, field_by_next, field_read}
use Rattle.lines.specs.Codes as C
use Rattle.lines.specs.Codes.{Code, line_read, code_read}
use Rattle.lines.specs.Put.{Written, seen}
use Rattle.lines.specs.declared.field.Field as field
use Rattle.lines.specs.declared.codes.Code as code
use Rattle.lines.specs.declared.codes.BadLine.{BadLine}
use Rattle.lines.specs.declared.put.Page.{Page}

abbrev field_as : ℕ → Option ℕ → field.Field
field_as v n = record { number = v; next = n }

abbrev field_back : Field → Option field.Field
field_back (More v n) = Some (field_as v (Some n))
field_back (Last v) = Some (field_as v None)
field_back Bad = None

next_is : (n : Option ℕ) (v : ℕ) → field_back (field_by_next n v) ≡ Some (field_as v n)
next_is (Some n) v = refl
next_is None v = refl

field_is : (r : Option field.Field) → field_back (field_read r) ≡ r
field_is (Some f) = next_is f.next f.number
field_is None = refl

-- of a field
pub field_one : (r q : Option field.Field) → field_read r ≡ field_read q → r ≡ q
field_one r q e = sym (field_is r) ∙ ap field_back e ∙ field_is q

abbrev code_as : ℕ → ℕ → code.Code
code_as v n = record { code = v; next = n }

-- the code that is said, some other where none is
abbrev code_back : code.Code → Code → code.Code
code_back c (C.Next v n) = code_as v n
code_back c C.End = c
code_back c C.Bad = c

-- of an R line
pub line_one : (r q : Result code.Code BadLine) → line_read r ≡ line_read q → r ≡ q
line_one (Ok c) (Ok d) e = ap (λ (x : code.Code). Ok x) (ap (code_back c) e)
line_one (Ok c) (Err y) e = cc
line_one (Err x) (Ok d) e = cc
line_one (Err x) (Err y) e = refl

-- of a rest of R lines
pub code_one : (r q : Result (Option code.Code) BadLine) → code_read r ≡ code_read q → r ≡ q
code_one (Ok (Some c)) (Ok (Some d)) e = ap (λ (x : code.Code). Ok (Some x)) (ap (code_back c) e)
code_one (Ok (Some c)) (Ok None) e = cc
code_one (Ok (Some c)) (Err y) e = cc
code_one (Ok None) (Ok (Some d)) e = cc
code_one (Ok None) (Ok None) e = refl
code_one (Ok None) (Err y) e = cc
code_one (Err x) (Ok (Some d)) e = cc
code_one (Err x) (Ok None) e = cc
code_one (Err x) (Err y) e = refl

-- of a page, as it is left: its place and its bytes, and not which lent bytes these are
pub seen_one : (p q : Page) → seen p ≡ seen q → (p.next ≡ q.next) × (p.bytes.now ≡ q.bytes.now)
seen_one p q e = (ap (λ (w : Written). w.next) e, ap (λ (w : Written). w.buf) e)
