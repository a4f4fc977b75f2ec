-- What is packed into a number is read out of it again, and what is read out of a number fits its place.
use Prim.Native.Nat.{ℕ, ◌+◌, ◌*◌, ◌/◌, ◌%◌, ◌<◌, ◌≤◌}
use mathlib.Core.Path.{◌≡◌, sym, ap, ◌∙◌}
use native.Mathlib.Omega.{arith}
use Rattle.terms.specs.Line.{bit_of}
use Rattle.terms.proofs.Pack.{bit_small, bit_read}
use Rattle.model.specs.Records.{pack_action, action_in, pack_machine, machine_in, pack_location, location_in, pack_thread, thread_in}
use Rattle.model.specs.declared.records.Action.{Action}
use Rattle.model.specs.declared.records.Machine.{Machine}
use Rattle.model.specs.declared.records.Location.{Location}
use Rattle.model.specs.declared.records.Listed.{Listed}

-- the fields fit into their places of a number
pub record SmallAction (a : Action) : Type 0 where
  pub op : a.op < 256
  pub loc : a.loc < 65536
  pub x : a.x < 65536
  pub y : a.y < 65536

pub record SmallMachine (m : Machine) : Type 0 where
  pub boot : m.boot < 256
  pub launch : m.launch < 256

pub record SmallLocation (l : Location) : Type 0 where
  pub machine : l.machine < 256
  pub kind : l.kind < 256
  pub value : l.value < 65536

pub record SmallThread (l : Listed) : Type 0 where
  pub agent : l.agent < 65536
  pub machine : l.machine < 256
  pub program : l.program < 256

pub action_packed : (a : Action) → SmallAction a → action_in (pack_action a) ≡ a
unfolding pack_action action_in
action_packed a s =
    let n : ℕ = a.op * 281474976710656 + a.loc * 4294967296 + a.x * 65536 + a.y in
    let o : n / 281474976710656 % 256 ≡ a.op = omega arith in
    let l : n / 4294967296 % 65536 ≡ a.loc = omega arith in
    let x : n / 65536 % 65536 ≡ a.x = omega arith in
    let y : n % 65536 ≡ a.y = omega arith in
    rw (o, l, x, y)

pub machine_packed : (m : Machine) → SmallMachine m → machine_in (pack_machine m) ≡ m
unfolding pack_machine machine_in
machine_packed m s =
    let t : bit_of m.protected ≤ 1 = bit_small m.protected in
    let n : ℕ = m.boot * 65536 + m.launch * 256 + bit_of m.protected in
    let b : n / 65536 % 256 ≡ m.boot = omega arith in
    let l : n / 256 % 256 ≡ m.launch = omega arith in
    let p : n % 256 ≡ bit_of m.protected = omega arith in
    rw (b, l, p, bit_read m.protected)

pub location_packed : (l : Location) → SmallLocation l → location_in (pack_location l) ≡ l
unfolding pack_location location_in
location_packed l s =
    let n : ℕ = l.machine * 16777216 + l.kind * 65536 + l.value in
    let m : n / 16777216 % 256 ≡ l.machine = omega arith in
    let k : n / 65536 % 256 ≡ l.kind = omega arith in
    let v : n % 65536 ≡ l.value = omega arith in
    rw (m, k, v)

pub thread_packed : (l : Listed) → SmallThread l → thread_in (pack_thread l) ≡ l
unfolding pack_thread thread_in
thread_packed l s =
    let n : ℕ = l.agent * 65536 + l.machine * 256 + l.program in
    let a : n / 65536 % 65536 ≡ l.agent = omega arith in
    let m : n / 256 % 256 ≡ l.machine = omega arith in
    let p : n % 256 ≡ l.program = omega arith in
    rw (a, m, p)

-- what is read out of a number fits its place
pub thread_small : (n : ℕ) → SmallThread (thread_in n)
unfolding thread_in
thread_small n = record { agent = omega arith; machine = omega arith; program = omega arith }

-- so equal numbers are of equal records
pub action_one : (a b : Action) → SmallAction a → SmallAction b → pack_action a ≡ pack_action b → a ≡ b
action_one a b s t p = sym (action_packed a s) ∙ ap action_in p ∙ action_packed b t

pub location_one : (a b : Location) → SmallLocation a → SmallLocation b → pack_location a ≡ pack_location b → a ≡ b
location_one a b s t p = sym (location_packed a s) ∙ ap location_in p ∙ location_packed b t

pub machine_one : (a b : Machine) → SmallMachine a → SmallMachine b → pack_machine a ≡ pack_machine b → a ≡ b
machine_one a b s t p = sym (machine_packed a s) ∙ ap machine_in p ∙ machine_packed b t

pub thread_one : (a b : Listed) → SmallThread a → SmallThread b → pack_thread a ≡ pack_thread b → a ≡ b
thread_one a b s t p = sym (thread_packed a s) ∙ ap thread_in p ∙ thread_packed b t
