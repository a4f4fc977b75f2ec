-- `audit::listed::threads_sound` meets its contract: `all` over the places of the array is the test on each of them.
use Rattle.std.proofs.Common.{rules, ◌≡◌, length}
use lib.Dec.{ltb}
use borrow.Author.Tests.{tests}
use Rattle.terms.proofs.Chains.{all_places}
use Rattle.audit.specs.Listed.{threads_sound, thread_sound}
use Rattle.audit.proofs.listed.threads_sound.Goals as goal

pub returns-then-m-le-THREADS : goal.returns-then-m-le-THREADS
unfolding threads_sound
returns-then-m-le-THREADS c =
    let m = c.args.m.now in
    let long : length m.threads ≡ 8 = search rules in
    let each : c.all.result ≡ _ =
    all_places (λ i n. thread_sound n (ltb i m.thread_count) m.machine_count m.programs) m.threads 8 0
    c.all.ensures.ran (cc) (cc) long (λ x b q k. search (rules, tests)) in
    search (rules, tests)
