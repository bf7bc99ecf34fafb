use Rattle.std.proofs.Common.{◌-◌, arith}
use Rattle.paw_image.proofs.GroupLaws.{group_at, group_is}
use Rattle.paw_image.proofs.NumberLaws.{as_many, some_numbers}
use Rattle.paw_image.proofs.word_index.WordIndex.group.Goals as goal

pub slice_bounds-result-count : goal.slice_bounds-result-count
slice_bounds-result-count c =
    (group_at c.self.inside.words.items c.self.inside.starts.items c.group_of-group.result c.index.result.now c.index-2.result.now
    c.self.invariant.grouped (omega (arith, c.group_of-group.ensures.value)) c.index.ensures c.index-2.ensures).rise

pub slice_bounds-result-start : goal.slice_bounds-result-start
slice_bounds-result-start c =
    (group_at c.self.inside.words.items c.self.inside.starts.items c.group_of-group.result c.index.result.now c.index-2.result.now
    c.self.invariant.grouped (omega (arith, c.group_of-group.ensures.value)) c.index.ensures c.index-2.ensures).rise

pub slice_bounds-result-count-2 : goal.slice_bounds-result-count-2
slice_bounds-result-count-2 c =
    (group_at c.self.inside.words.items c.self.inside.starts.items c.group_of-group.result c.index.result.now c.index-2.result.now
    c.self.invariant.grouped (omega (arith, c.group_of-group.ensures.value)) c.index.ensures c.index-2.ensures).rise

pub slice_bounds-result-start-2 : goal.slice_bounds-result-start-2
slice_bounds-result-start-2 c =
    (group_at c.self.inside.words.items c.self.inside.starts.items c.group_of-group.result c.index.result.now c.index-2.result.now
    c.self.invariant.grouped (omega (arith, c.group_of-group.ensures.value)) c.index.ensures c.index-2.ensures).rise

pub slice_bounds-result-end-2 : goal.slice_bounds-result-end-2
slice_bounds-result-end-2 c =
    let at = group_at c.self.inside.words.items c.self.inside.starts.items c.group_of-group.result c.index.result.now c.index-2.result.now
    c.self.invariant.grouped (omega (arith, c.group_of-group.ensures.value)) c.index.ensures c.index-2.ensures in
    omega (arith, at.ends.within, as_many c.self.inside.words.items c.self.inside.numbers.items c.self.invariant.numbered, c.deref-2.ensures.len)

pub returns : goal.returns
returns c =
    let words = c.self.inside.words.items in
    let start = c.index.result.now in
    let end = c.index-2.result.now in
    let group = c.group_of-group in
    let at = group_at words c.self.inside.starts.items group.result start end
    c.self.invariant.grouped (omega (arith, group.ensures.value)) c.index.ensures c.index-2.ensures in
    let is = group_is words group.result start end c.self.invariant.rise at in
    let numbers = some_numbers (end - start) start words c.self.inside.numbers.items c.self.invariant.numbered in
    record {
      group = rw (c.deref.ensures.value, ← group.ensures.value, ← c.self.view_is) is;
      numbers = rw (c.deref.ensures.value, c.deref-2.ensures.value) numbers;
    }
