use Rattle.std.proofs.Common.{List, refl, ap, sym, subst, ◌∙◌, arith}
use Rattle.store_api.specs.Calls.{to_list}
use Rattle.store_api.specs.declared.change.Listing.{Listing}
use Rattle.store_api.specs.Contents.{Contents}
use Rattle.store_api.specs.History.{listing_at, revision}
use Rattle.memory_store.specs.declared.live.Made.{Made}
use Rattle.memory_store.specs.Kept.{IsCurrentIn, history_in}
use Rattle.memory_store.proofs.Keeping.{revision_is}
use Rattle.memory_store.proofs.Sets.{is_listing}
use Rattle.memory_store.proofs.Called.{list_answered, stored, wanted}
use Rattle.memory_store.proofs.store.MemoryStoreStore.list.Goals as goal

pub returns-clause-listing : goal.returns-clause-listing
returns-clause-listing c =
    let lives : IsCurrentIn (history_in c.self.inside.history.items) c.in_ok-current.current = subst (λ (h : List Made). IsCurrentIn (history_in h) c.in_ok-current.current) c.as_slice.ensures.value c.in_ok-current.ensures in
    record {
      at = revision_is c.self.inside.log c.self.inside.log c.self.inside.history.items c.self.inside.compacted c.self.inside.leases c.self.inside.current c.self.invariant c.len.result (omega (arith, c.len.ensures, c.self.inside.history.ok));
      pairs = is_listing c.args.ranges.now.items (history_in c.self.inside.history.items) c.in_ok-current.current.live _ c.in_ok-pairs.ensures lives.live
          ∙ ap (λ (x : Contents). let h = x.history in listing_at c.args.ranges.now.items h (revision h)) (sym c.self.invariant.contents);
    }

pub returns-clause-call : goal.returns-clause-call
returns-clause-call c = rw (← c.self.view_is) (list_answered (stored c.self.inside.log c.self.inside.calls) (stored c.self.inside.log c.raise.new.self) refl c.raise.ensures)

pub returns-in_err-current-clause-call : goal.returns-in_err-current-clause-call
returns-in_err-current-clause-call c = rw (← c.self.view_is) (wanted to_list Listing c.from_residual.result (stored c.self.inside.log c.self.inside.calls) (stored c.self.inside.log c.raise.new.self) refl c.raise.ensures c.from_residual.ensures.1)

pub returns-in_err-pairs-clause-call : goal.returns-in_err-pairs-clause-call
returns-in_err-pairs-clause-call c = rw (← c.self.view_is) (wanted to_list Listing c.from_residual-in_err-pairs.result (stored c.self.inside.log c.self.inside.calls) (stored c.self.inside.log c.raise.new.self) refl c.raise.ensures c.from_residual-in_err-pairs.ensures.1)
