use Rattle.std.proofs.Common.{◌≡◌, ℕ, ◌+◌, ◌<◌, ◌++◌, ◌∷◌, List, [], Bool, Vec, Global, map, length, filter, suc, ap, ap₂, sym, ◌∙◌, arith}
use Rattle.std.proofs.lemmas.Bool.Decides.{nat_tests}
use Rattle.std.proofs.lemmas.Grind.{common_steps}
use Rattle.std.proofs.lemmas.List.{map_push}
use Rattle.std.proofs.lemmas.List.Elements.{All-push, All-same}
use Rattle.store_api.specs.Followed.{Part, changed_key, part_of, part_at}
use Rattle.store_api.specs.History.{History, in_ranges}
use Rattle.store_api.specs.declared.change.Change.{Change}
use Rattle.store_api.specs.declared.change.Revision.{Revision}
use Rattle.memory_store.specs.declared.live.Made.{Made}
use Rattle.memory_store.specs.Kept.{history_in, writers_in}
use Rattle.memory_store.specs.Writers.{AreWrittenBy, numbered_writer}
use Rattle.memory_store.proofs.Logs.{changes_here}
use Rattle.memory_store.proofs.Watched.{parts_some, parts_more, parts_all}
use Rattle.memory_store.proofs.Writing.{writer_here}
use Rattle.memory_store.proofs.watch.delivered.Goals as goal
use Rattle.memory_store.proofs.watch.delivered.Goals.{then-not-is_empty+in_ok-push, else-not-is_empty}

written : (c : goal.Joined-not-is_empty) → AreWrittenBy (writers_in c.args.history.now) c.if-not-is_empty.revisions.items
written c =
    let names : Revision → Type 0 = λ (r : Revision). r.writer ≡ numbered_writer (writers_in c.args.history.now) r.number in
    elim c.if-not-is_empty.branch [
      | then-not-is_empty+in_ok-push w ↦
          All-same names c.if-not-is_empty.revisions.items _ (ap (λ (v : Vec Revision Global). v.items) w.revisions-is ∙ w.in_ok-push.ensures.items)
          (All-push names c.loop-place.revisions.items _ c.loop-place.invariant.writers
          (writer_here c.args.history.now c.loop-place.place (c.loop-place.place + 2) c.index-history-place.result (omega arith) c.index-history-place.is (omega arith)))
      | else-not-is_empty w ↦ All-same names c.if-not-is_empty.revisions.items c.loop-place.revisions.items (ap (λ (v : Vec Revision Global). v.items) w.revisions-is) c.loop-place.invariant.writers
    ]

pub loop-place-preserved : goal.loop-place-preserved
loop-place-preserved c =
    let inside : List ℕ → Bool = in_ranges c.args.ranges.now.items in
    let h : History = history_in c.args.history.now in
    let r = c.loop-place.place + 1 in
    let next : c.loop-place.place + 1 + 1 ≡ suc r = omega arith in
    let made : Made = c.index-history-place.result in
    let there : c.in_ok-changes.changes.items ≡ part_at inside h (suc r) =
    c.in_ok-changes.ensures ∙ ap (filter (λ (x : Change). inside (changed_key x))) (c.as_slice.ensures ∙ sym (changes_here c.args.history.now c.loop-place.place (suc r) made (omega arith) c.index-history-place.is (omega arith))) in
    let revisions = c.loop-place.revisions.items in
    record {
      writers = written c;
      so_far = elim c.if-not-is_empty.branch [
        | then-not-is_empty+in_ok-push w ↦
            let some : 0 < length c.in_ok-changes.changes.items = (let h = w.if-not-is_empty.true in grind (arith, common_steps, nat_tests)) in
            let part : Part = record { number = c.loop-place.place + 2; changes = w.from_vec.result } in
            let part_is : part ≡ record { number = c.loop-place.place + 1 + 1; changes = c.in_ok-changes.changes.items } =
            ap₂ (λ (n : ℕ) (cs : List Change). let x : Part = record { number = n; changes = cs } in x) (omega arith) w.from_vec.ensures in
            ap (λ (v : Vec Revision Global). map part_of v.items) w.revisions-is
            ∙ ap (map part_of) w.in_ok-push.ensures.items
            ∙ map_push part_of revisions (record { number = c.loop-place.place + 2; writer = made.writer; changes = w.from_vec.result })
            ∙ ap₂ (λ (ps : List Part) (p : Part). ps ++ p ∷ []) c.loop-place.invariant.so_far part_is
            ∙ sym (parts_some inside h c.args.after r (c.loop-place.place + 1 + 1) c.in_ok-changes.changes.items next (omega arith) there some)
        | else-not-is_empty w ↦
            let none : length c.in_ok-changes.changes.items ≡ 0 = (let h = w.if-not-is_empty.false in grind (arith, common_steps, nat_tests)) in
            ap (λ (v : Vec Revision Global). map part_of v.items) w.revisions-is ∙ c.loop-place.invariant.so_far
            ∙ sym (parts_more inside h c.args.after r (c.loop-place.place + 1 + 1) c.in_ok-changes.changes.items next (omega arith) there none)
      ];
      within = omega arith;
    }

pub returns-clause-parts : goal.returns-clause-parts
returns-clause-parts c =
    ap (map part_of) c.from_vec-2.ensures ∙ c.loop-place.invariant.so_far
    ∙ parts_all (in_ranges c.args.ranges.now.items) (history_in c.args.history.now) c.args.after c.loop-place.place c.args.upto (omega arith) c.loop-place.invariant.within

pub returns-clause-writers : goal.returns-clause-writers
returns-clause-writers c =
    All-same (λ (r : Revision). r.writer ≡ numbered_writer (writers_in c.args.history.now) r.number) c.from_vec-2.result c.loop-place.revisions.items c.from_vec-2.ensures c.loop-place.invariant.writers
