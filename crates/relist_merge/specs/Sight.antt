-- What a view shows to its callers.
use Rattle.relist_merge.specs.Shown.{entry_in}
use Rattle.relist_merge.specs.Viewed.{Viewed}
use Rattle.relist_merge.specs.declared.view.View.{View}

abbrev pub viewed : View → Viewed
viewed v = record {
  source = record { cluster = v.cluster; hop = v.hop; limit = v.limit };
  shown = record { entries = λ k. entry_in v.rows.fresh v.rows.map.entries k; cursor = v.cursor; phase = v.phase };
  room = v.rows.room;
}
