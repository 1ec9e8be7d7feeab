use borrow.Author.Rules.{rules}
use Rattle.shapes.proofs.Laws.{bits8, bits16, bits32}
use Rattle.shapes.proofs.arrays_shaped.Goals as goal

pub returns : goal.returns
returns c heap h =
    let f = c.args.s.frames in
    let k = c.args.s.kinds in
    let r = c.args.s.regions in
    let p = c.args.s.pages in
    record {
      sized = record {
        in_frames = record { widths = search rules; slots = search rules };
        in_kinds = record { sizes = search rules; marks = search rules };
        in_regions = record { names = search rules; parents = search rules; levels = search rules; shares = search rules; newest = search rules; oldest = search rules };
        in_pages = record { owners = search rules; taken = search rules };
      };
      bounded = record {
        in_frames = record { standing = search rules; counted = search rules; widths = bits8 f.widths (λ i. search rules); slots = bits32 f.slots (λ i. search rules) };
        in_kinds = record { declared = search rules; sizes = bits8 k.sizes (λ i. search rules); marks = bits8 k.marks (λ i. search rules) };
        in_regions = record {
          given = search rules;
          names = bits32 r.names (λ i. search rules);
          parents = bits8 r.parents (λ i. search rules);
          levels = bits8 r.levels (λ i. search rules);
          shares = bits32 r.shares (λ i. search rules);
          newest = bits16 r.newest (λ i. search rules);
          oldest = bits32 r.oldest (λ i. search rules);
        };
        in_pages = record { made = search rules; owners = bits8 p.owners (λ i. search rules); taken = bits8 p.taken (λ i. search rules) };
        heap = h;
      };
    }
