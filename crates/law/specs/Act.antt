-- What each action yields, on terms written out whole; 10 where "match, key, pair or code does not fit". One line an action.
use Rattle.std.specs.Prelude.{ℕ, Bool, eqb}
use Rattle.terms.specs.Base.{pick}
use Rattle.terms.specs.Tree.{Tree, leaf, sealed, applied, joined, nought, kind_of, same}
use Rattle.model.specs.declared.records.Action.{Action}
use Rattle.law.specs.Out.{Out, ok, refuse}

-- the number in it: of a key, an inverse key or a program; of the key that a signature or an encryption was made with
unfoldable pub num_of : Tree → ℕ
num_of (leaf k a) = a
num_of (sealed k x n) = n
num_of (applied k f x) = f
num_of (joined k x y) = 0

-- what is signed, encrypted or hashed; the first of a pair
unfoldable pub first_of : Tree → Tree
first_of (leaf k a) = nought
first_of (sealed k x n) = x
first_of (applied k f x) = nought
first_of (joined k x y) = x

-- the second of a pair
unfoldable pub second_of : Tree → Tree
second_of (leaf k a) = nought
second_of (sealed k x n) = nought
second_of (applied k f x) = x
second_of (joined k x y) = y

-- a value where the test holds, else 10
abbrev pub needs : Bool → Out Tree → Out Tree
needs b r = pick b r (refuse 10)

abbrev pub is_a : ℕ → Tree → Bool
is_a kind x = eqb (kind_of x) kind

-- "sign needs y an inverse key, enc and symenc need y a key": x under the key that y names
abbrev pub sealing : ℕ → ℕ → Tree → Tree → Out Tree
sealing kind key x y = needs (is_a key y) (ok (sealed kind x (num_of y)))

-- "verify yields a from a signature made by the inverse of key y; dec yields a where y is the inverse key; symdec where y
-- is the key"
abbrev pub opening : ℕ → ℕ → Tree → Tree → Out Tree
opening kind key x y = needs (is_a kind x) (needs (is_a key y) (needs (eqb (num_of x) (num_of y)) (ok (first_of x))))

-- "Actions with no value of their own bind label 0", which is number 0. v is the value of the action's location, n the
-- number of the next nonce.
unfoldable pub result : Action → Tree → Tree → Tree → ℕ → Out Tree
result a v x y n =
    -- 0 read
    pick (eqb a.op 0) (ok v)
    -- 2: "Extend replaces value v by the chain of v and x"
    (pick (eqb a.op 2) (ok (joined 14 v x))
    -- 7 sign by an inverse key (5), 8 verify with the key (4)
    (pick (eqb a.op 7) (sealing 10 5 x y)
    (pick (eqb a.op 8) (opening 10 4 x y)
    -- 9 enc to a key, 10 dec with the inverse key
    (pick (eqb a.op 9) (sealing 11 4 x y)
    (pick (eqb a.op 10) (opening 11 5 x y)
    -- 11 symenc, 12 symdec
    (pick (eqb a.op 11) (sealing 12 4 x y)
    (pick (eqb a.op 12) (opening 12 4 x y)
    -- 13 hash, 14 "eval: function loc on x"
    (pick (eqb a.op 13) (ok (sealed 13 x 0))
    (pick (eqb a.op 14) (ok (applied 15 a.loc x))
    -- 15, 16: "first, second of pair x"
    (pick (eqb a.op 15) (needs (is_a 9 x) (ok (first_of x)))
    (pick (eqb a.op 16) (needs (is_a 9 x) (ok (second_of x)))
    -- 17: "match needs equal terms"
    (pick (eqb a.op 17) (needs (same x y) (ok nought))
    -- 18: "new yields a nonce numbered from 0"
    (pick (eqb a.op 18) (ok (leaf 7 n))
    -- 19: "jump needs a code term"
    (pick (eqb a.op 19) (needs (is_a 8 x) (ok nought))
    -- write, lock, unlock, send, receive, late_launch
    (ok nought)))))))))))))))

-- the program that a code term names, 0 of any other term
unfoldable pub program_of : Tree → ℕ
program_of x = pick (is_a 8 x) (num_of x) 0
