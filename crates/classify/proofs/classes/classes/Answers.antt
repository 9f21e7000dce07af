use Rattle.std.proofs.Common.{◌≡◌, ◌+◌, ◌<◌, List, [], ◌∷◌, ◌++◌, length, drop, sym, ap, ◌∙◌, arith}
use Rattle.mid_code.specs.declared.class.Class.{Class}
use Rattle.mid_code.specs.Classes.{sharing_of, sharings, sites_of, class_of, classes_from}
use Rattle.classify.specs.Sites.{sites_in}
use Rattle.classify.proofs.ClassRows.{sites_by_class, sites_left, classes_left}
use Rattle.classify.proofs.classes.classes.Goals as goal

pub loop-place-preserved : goal.loop-place-preserved
loop-place-preserved c =
    let mains = c.args.mains in
    let shared = c.args.shared.now in
    let code = c.args.code.now in
    let i = c.loop-place.place in
    let l = c.index-code-place.result in
    let s = sharing_of mains shared i l.mid in
    let given = c.loop-place.given in
    let row = c.loop-place.row.items in
    let rest = sharings mains shared (i + 1) (drop (i + 1) code) in
    let within : i < length code = omega arith in
    let taken : c.sites_in.result ≡ sites_of s = c.sites_in.ensures ∙ ap sites_in c.class_of-class.ensures ∙ sites_by_class (given + 1) s in
    record {
      all = ap (λ (cs : List Class). cs ++ classes_from (given + c.sites_in.result + 1) rest) (c.push_reserved.ensures.items ∙ ap (λ k. row ++ k ∷ []) c.class_of-class.ensures)
          ∙ ap (λ n. (row ++ class_of (given + 1) s ∷ []) ++ classes_from (given + n + 1) rest) taken
          ∙ sym (classes_left mains shared code i l within c.index-code-place.is row given)
          ∙ c.loop-place.invariant.all;
      sites = omega (arith, taken, sites_left mains shared code i l within c.index-code-place.is, c.loop-place.invariant.sites);
      room = omega (arith, c.push_reserved.ensures.len, c.loop-place.invariant.room);
      reserved = c.push_reserved.ensures.capacity ∙ c.loop-place.invariant.reserved;
    }
