use Rattle.std.proofs.Common.{◌≡◌, ◌-◌}
use Rattle.store_api.specs.Calls.{Comes, on_store}
use Rattle.store_api.specs.Meaning.{Keeps}
use Rattle.exporter.specs.State.{after_items, turns}
use Rattle.exporter.specs.Talks.{export_talk}
use Rattle.exporter.proofs.exporter.Exporter.export.Given as goal

-- so many items were written
abbrev pub invariant-loop-turn : goal.invariant-loop-turn
invariant-loop-turn g l = record {
  comes : Comes (on_store {W = Unit {0}} g.S.Store.meaning g.S.Store.crossed) (export_talk (turns l.fn.most l.fn.self) l.fn.self) l.fn.store (export_talk (turns l.fn.most l.fn.self - l._turn) (after_items l._turn l.fn.self)) l.store;
  after : l.self ≡ after_items l._turn l.fn.self;
  keeps : Keeps (g.S.Store.meaning l.fn.store) (g.S.Store.meaning l.store);
  named : g.S.Store.name l.store ≡ g.S.Store.name l.fn.store;
  loans : g.S.Store.loans l.store ≡ g.S.Store.loans l.fn.store;
}
