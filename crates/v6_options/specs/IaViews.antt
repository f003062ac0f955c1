-- What the views of IAs show, and what is left of a walk over them.
use Rattle.std.specs.Prelude.{List}
use Rattle.v6_options.specs.declared.ia.IaSaid.{IaSaid}
use Rattle.v6_options.specs.declared.ia.ItemSaid.{ItemSaid}
use Rattle.v6_options.specs.declared.ia_view.IaView.{IaView}
use Rattle.v6_options.specs.declared.ia_view.IaViews.{IaViews}
use Rattle.v6_options.specs.declared.ia_view.Items.{Items}
use Rattle.v6_options.specs.Statuses.{status_in}
use Rattle.v6_options.specs.Ias.{IaContent, items_in, ias_in}

abbrev pub ia_shown : IaView → IaContent
ia_shown ia = record {
  kind = ia.kind;
  iaid = ia.iaid;
  t1 = ia.t1;
  t2 = ia.t2;
  status = status_in ia.options.now;
  items = items_in ia.kind ia.options.now;
}

abbrev pub ias_left : IaViews → List IaContent
ias_left walk = ias_in walk.rest.now

abbrev pub items_left : Items → List ItemSaid
items_left walk = items_in walk.kind walk.rest.now

-- the content of an IA that is kept
abbrev pub ia_content : IaSaid → IaContent
ia_content ia = record {
  kind = ia.kind;
  iaid = ia.iaid;
  t1 = ia.t1;
  t2 = ia.t2;
  status = ia.status.number;
  items = ia.items.items;
}
