-- The definitions that the contracts cite, for whoever states more on top of the library.
-- Events and lists of them, ranges, numbers of causes, how things are shown.
pub use Rattle.mesh_stream.specs.Lists
pub use Rattle.mesh_stream.specs.Events
pub use Rattle.mesh_stream.specs.Live
pub use Rattle.mesh_stream.specs.Ranges
pub use Rattle.mesh_stream.specs.Numbers
pub use Rattle.mesh_stream.specs.Shown
-- Stages, their calls, and lists of calls.
pub use Rattle.mesh_stream.specs.Meaning
pub use Rattle.mesh_stream.specs.Calls
pub use Rattle.mesh_stream.specs.Runs
-- What is accepted.
pub use Rattle.mesh_judge.specs.Accepting
-- What the bottoms give.
pub use Rattle.mesh_reader.specs.Text
pub use Rattle.mesh_reader.specs.Numerals
pub use Rattle.mesh_reader.specs.Reading
pub use Rattle.mesh_bottoms.specs.Listing
pub use Rattle.mesh_bottoms.specs.Gridding
-- Which points a region has.
pub use Rattle.mesh_regions.specs.Sets
pub use Rattle.mesh_regions.specs.Boxes
pub use Rattle.mesh_regions.specs.HalfSpaces
-- What the layers make of it, and the law on runs.
pub use Rattle.mesh_rules.specs.Degenerate
pub use Rattle.mesh_rules.specs.Rewriting
pub use Rattle.mesh_rules.specs.Piling
pub use Rattle.mesh_layer.specs.Layering
pub use Rattle.mesh_layer.specs.Law
pub use Rattle.mesh_layer.specs.Orders
-- The border list, and how an edge is shown.
pub use Rattle.mesh_edges.specs.ShownEdges
pub use Rattle.mesh_edges.specs.Bordering
pub use Rattle.mesh_border.specs.BorderLaw
-- Reports.
pub use Rattle.mesh_report.specs.Counting
pub use Rattle.mesh_report.specs.Reporting
pub use Rattle.mesh_report.specs.Spelling
pub use Rattle.mesh_report.specs.Streaming
pub use Rattle.mesh_piles.specs.Texts
-- Listings.
pub use Rattle.mesh_listing.specs.Lines
pub use Rattle.mesh_listing.specs.Steps
